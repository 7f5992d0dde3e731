-- Which networks are not written, and what calls that read and write networks leave in lent room: RULES, "Refusal
-- numbers": 12, 13, then 14, each in its words and with its numbers. Assumes nothing.
use Rattle.std.specs.Prelude.{ℕ, ◌≤◌, ◌≡◌, List, length, get_or}
use Rattle.network.specs.declared.Frame.{Frame}
use Rattle.network.specs.Ranges.{RightFrame, RightLevels}
use Rattle.grid.specs.Write.{show_network}

-- n is the answer to a network to be written into `text`, its size into `sizes`: a refusal, or 0
pub record WriteRefused (levels : List ℕ) (f : Frame) (text sizes : List ℕ) (n : ℕ) : Type 0 where
  pub twelve : (RightFrame levels f → ⊥) → n ≡ 12
  pub thirteen : RightFrame levels f → (RightLevels levels → ⊥) → n ≡ 13
  -- 14 where the text or its size has no room
  pub fourteen : RightFrame levels f → RightLevels levels
      → ((length (show_network levels f) ≤ length text) × (1 ≤ length sizes) → ⊥)
      → n ≡ 14
  pub none : RightFrame levels f → RightLevels levels → length (show_network levels f) ≤ length text
      → 1 ≤ length sizes
      → n ≡ 0

-- lent room before and after a call with this refusal, or 0 and an answer of so many numbers: a refused call changes
-- nothing, and an answered one nothing past its answer
pub record Keeps (refusal size : ℕ) (before after : List ℕ) : Type 0 where
  pub refused : (refusal ≡ 0 → ⊥) → after ≡ before
  pub past : refusal ≡ 0 → (i : ℕ) → size ≤ i → get_or after i 0 ≡ get_or before i 0
