-- All that the program contours writes has its last line end. Assumes nothing.
use Rattle.std.specs.Prelude.{◌≡◌, ℕ, List, [], ◌∷◌, ◌++◌}
use Rattle.contours_steps.specs.Sheet.{written_of, failed_of, overlong_of}

-- a text ends in CR, 13, and LF, 10
pub record Ended (text : List ℕ) : Type 0 where
  pub before : List ℕ
  pub is : text ≡ before ++ (13 ∷ 10 ∷ [])

-- whatever the bytes and the words are: drawn or refused, read to its end, failed, or too long for the room
pub record Ends (text : List ℕ) (words : List (List ℕ)) : Type 0 where
  pub written : Ended (written_of text words)
  pub failed : Ended (failed_of text)
  pub overlong : Ended (overlong_of text)
