-- Dates worked by hand. Assumes nothing.
use Rattle.std.specs.Prelude.{ℕ, ◌+◌, ◌≡◌, Bool, true, false, List, [], ◌∷◌}
use Rattle.date.specs.Calendar.{date_exists, day_number}

pub data Case : Type 0 where
  -- whether a number is a date
  exists : (date : ℕ) (answer : Bool) → Case
  -- from one date to another it is so many days
  days : (from to many : ℕ) → Case

abbrev pub CaseHolds : Case → Type 0
CaseHolds (exists date answer) = date_exists date ≡ answer
CaseHolds (days from to many) = day_number to ≡ day_number from + many

abbrev pub AllHold : List Case → Type 0
AllHold [] = Unit {0}
AllHold (x ∷ xs) = CaseHolds x × AllHold xs

abbrev pub cases : List Case
cases =
    exists 19000229 false
    ∷ exists 20000229 true
    ∷ exists 20240229 true
    ∷ exists 20260229 false
    ∷ exists 21000229 false
    ∷ exists 99991231 true
    ∷ exists 18991231 false
    ∷ exists 100000101 false
    ∷ days 20260331 20260401 1
    ∷ days 20231231 20240101 1
    ∷ days 19000101 99991231 2958463
    ∷ []
