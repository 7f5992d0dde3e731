-- One letter as text, which stands for its place among the letters of its column. Assumes nothing.
use Rattle.std.specs.Prelude.{ℕ, suc, cond, List, [], ◌∷◌, length, ◌==◌, slice_index}
use Rattle.std.specs.Prelude.{Option, Some, None}

abbrev pub later : Option ℕ → Option ℕ
later None = None
later (Some n) = Some (suc n)

-- the place of a byte in a list
unfoldable pub place_of : ℕ → List ℕ → Option ℕ
place_of c [] = None
place_of c (l ∷ ls) = cond (c == l) (Some 0) (later (place_of c ls))

unfoldable pub letter_of : List ℕ → List ℕ → Option ℕ
letter_of letters t = cond (length t == 1) (place_of (slice_index t 0) letters) None

abbrev pub show_letter : List ℕ → ℕ → List ℕ
show_letter letters n = slice_index letters n ∷ []
