-- Inner steps: no promise uses them. What a row leaves in the book. Assumes nothing.
use Rattle.std.specs.Prelude.{◌≡◌, ℕ, List, take}
use Rattle.book_rules.specs.Columns.{Book}
use Rattle.book_rules.specs.Calls.{Call, refusal, after}
use Rattle.report_steps.specs.Intake.{Taken, supplied_taken, row_taken, row_after}

-- a row: what is answered, and the book at the end
pub record RowTaken (p : ℕ) (b : Book) (line : List ℕ) (r : Taken) (b' : Book) : Type 0 where
  pub answer : r ≡ row_taken p b line
  pub book : b' ≡ row_after p b line

-- the same of a row's levels alone
pub record LevelsTaken (p : ℕ) (b : Book) (identity : ℕ) (given : List ℕ) (r : Taken) (b' : Book) : Type 0 where
  pub answer : r ≡ supplied_taken (refusal p b (Call.supply identity (take p given)))
  pub book : b' ≡ after p b (Call.supply identity (take p given))
