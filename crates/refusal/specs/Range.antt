-- When every value of a list is in its range.
-- Assumes nothing.
use Rattle.std.specs.Prelude.{ℕ, Bool, true, ◌&&◌, List, [], ◌∷◌, leb}

-- no value is over `top`
unfoldable pub all_within : ℕ → List ℕ → Bool
all_within top [] = true
all_within top (x ∷ xs) = leb x top && all_within top xs
