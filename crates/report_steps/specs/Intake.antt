-- A register's row into a book: RULES, "Files and the report program".
-- Assumes nothing.
use Rattle.std.specs.Prelude.{◌≡◌, ◌↔◌, ℕ, cond, List, take, replicate, ◌==◌, Result, Ok, Err}
use Rattle.book_rules.specs.Columns.{Book}
use Rattle.book_rules.specs.Calls.{Call, refusal, after}
use Rattle.register.specs.Row.{Layout}
use Rattle.register.specs.Row.{layout_of}
use Rattle.refusal.specs.declared.Refusal.{Refusal}
use Rattle.refusal.specs.Refusal.{number_of}
use Rattle.report_steps.specs.declared.Entry.{Entry}
use Rattle.report_steps.specs.declared.Entry.TheVariants.{Added, Skipped}

-- what a register's row did to the book: it was entered, passed over, or refused by a number
pub data Taken : Type 0 where
  Entered : Taken
  PassedOver : Taken
  Refused : (number : ℕ) → Taken

-- the rules' number of what was done: a refusal's, 0 for none
abbrev pub taken_number : Taken → ℕ
taken_number Entered = 0
taken_number PassedOver = 0
taken_number (Refused n) = n

-- what a row did, by its answer
abbrev pub taken_of : Result Entry Refusal → Taken
taken_of (Ok Added) = Entered
taken_of (Ok Skipped) = PassedOver
taken_of (Err why) = Refused (number_of why)

-- the two calls that a row asks for; it counts at every one of p points
abbrev pub entering : ℕ → Layout → Call
entering p l =
    Call.enter l.fields.identity l.fields.ty l.fields.kind l.fields.time l.fields.mass
    (replicate p 1)

abbrev pub supplying : ℕ → Layout → Call
supplying p l = Call.supply l.fields.identity (take p l.levels)

-- *supply* answered r
abbrev pub supplied_taken : ℕ → Taken
supplied_taken r = cond (r == 0) Entered (Refused r)

-- a row that is entered: *supply* follows where its levels are not blank
unfoldable pub entered_taken : ℕ → Book → Layout → Taken
entered_taken p b l = cond (l.fields.computed == 0) Entered (supplied_taken (refusal p b (supplying p l)))

unfoldable pub entered_after : ℕ → Book → Layout → Book
entered_after p b l = cond (l.fields.computed == 0) b (after p b (supplying p l))

-- *enter* answered r: a row of 150 kg or less is passed over
unfoldable pub layout_taken : (p : ℕ) (b : Book) (l : Layout) (r : ℕ) → Taken
layout_taken p b l r =
    cond (r == 2) PassedOver (cond (r == 0) (entered_taken p (after p b (entering p l)) l) (Refused r))

unfoldable pub layout_after : (p : ℕ) (b : Book) (l : Layout) (r : ℕ) → Book
layout_after p b l r = cond (r == 0) (entered_after p (after p b (entering p l)) l) b

-- a row of a register with p points, on a book: 16, then *enter*, then *supply*. Where *supply* is refused the row
-- stands entered, and the report stops
unfoldable pub row_taken : ℕ → Book → List ℕ → Taken
row_taken p b line =
    cond ((layout_of p line).refusal == 0)
    (layout_taken p b (layout_of p line) (refusal p b (entering p (layout_of p line))))
    (Refused 16)

unfoldable pub row_after : ℕ → Book → List ℕ → Book
row_after p b line =
    cond ((layout_of p line).refusal == 0)
    (layout_after p b (layout_of p line) (refusal p b (entering p (layout_of p line))))
    b

-- what the code answers to a row, by its own cases
pub record RowAnswered (p : ℕ) (b : Book) (line : List ℕ) (r : Result Entry Refusal) : Type 0 where
  pub skipped : (r ≡ Ok Skipped) ↔ (row_taken p b line ≡ PassedOver)
  pub added : (r ≡ Ok Added) ↔ (row_taken p b line ≡ Entered)
