-- A part of a text. Assumes nothing.
use Rattle.std.specs.Prelude.{◌≡◌, ◌≤◌, ℕ, List, ◌++◌, length}
use Rattle.std.specs.List.{slice_range}

-- the bytes of a text from one place up to another
pub record IsStretch (text part : List ℕ) : Type 0 where
  pub start : ℕ
  pub end : ℕ
  pub forward : start ≤ end
  pub within : end ≤ length text
  pub bytes : part ≡ slice_range text start end

-- a text begins with `front` and ends with `rest`, which don't overlap
abbrev pub IsFront : (text front rest : List ℕ) → Type 0
IsFront text front rest = (between : List ℕ) × (text ≡ front ++ (between ++ rest))
