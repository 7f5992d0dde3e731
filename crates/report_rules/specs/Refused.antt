-- When a report is refused, with which number and which line: RULES, "Files and the report program".
-- Assumes nothing.
use Rattle.std.specs.Prelude.{ℕ, ◌+◌, ◌*◌, ◌≤◌, ◌≡◌, ◌↔◌, List, length, take}
use Rattle.book_rules.specs.Columns.{Book}
use Rattle.book_rules.specs.Calls.{refusal, after}
use Rattle.book_rules.specs.History.{empty_book}
use Rattle.text.specs.Line.{lines_of}
use Rattle.text.specs.Sheet.{Refuses}
use Rattle.text.specs.Spelled.{bytes}
use Rattle.register.specs.LimitsFile.{limits_of}
use Rattle.register.specs.Row.{layout_of}
use Rattle.report_steps.specs.Intake.{entering, supplying}
use Rattle.stream.specs.Refused.{FirstRefused}
use Rattle.report_steps.specs.Reading.{line_refusal, register_step, registered}
use Rattle.report_text.specs.Text.{book_refusal}
use Rattle.report_rules.specs.Report.{book_rows, report_of}
use Rattle.report_rules.specs.Flights.{book_in}

-- limits.csv first, then the register, then the whole book, which has line 0
pub record ReportRefused (limits register : List ℕ) : Type 0 where
  pub by_limits : ((limits_of limits).refusal ≡ 0 → ⊥)
      → Refuses (report_of limits register) (limits_of limits).refusal (limits_of limits).line
  pub by_register : let p = (limits_of limits).points in let s = registered p (empty_book p book_rows) register in
      (limits_of limits).refusal ≡ 0 → (s.refusal ≡ 0 → ⊥)
      → Refuses (report_of limits register) s.refusal s.line
  pub by_book : let p = (limits_of limits).points in let s = registered p (empty_book p book_rows) register in
      (limits_of limits).refusal ≡ 0 → s.refusal ≡ 0
      → (book_refusal (limits_of limits) (book_in p register) ≡ 0 → ⊥)
      → Refuses (report_of limits register) (book_refusal (limits_of limits) (book_in p register)) 0

-- The first refusal of a register counts, at its own line; one with no line has no header: 16 at its line 1. Said of
-- `registered`, the reading that the report answers
pub record RegisterRefused (p : ℕ) (b : Book) (register : List ℕ) : Type 0 where
  pub empty : length (lines_of register) ≡ 0
      → ((registered p b register).refusal ≡ 16) × ((registered p b register).line ≡ 1)
  pub first : 1 ≤ length (lines_of register) → ((registered p b register).refusal ≡ 0 → ⊥)
      → FirstRefused (register_step p) b register (registered p b register).refusal (registered p b register).line

-- What refuses a line

-- line 1 passes exactly if it is the header of p points, 1 to 8, and is refused 16 otherwise
pub record HeaderExactly (p : ℕ) (b : Book) (line : List ℕ) : Type 0 where
  pub passes : line_refusal p 1 b line ≡ 0
      ↔ ((1 ≤ p) × (p ≤ 8))
      × (line ≡ take (22 + 3 * p) (bytes "id,type,mtow,kind,time,l1,l2,l3,l4,l5,l6,l7,l8"))
  pub otherwise : (line_refusal p 1 b line ≡ 0 → ⊥) → line_refusal p 1 b line ≡ 16

-- any other line is a row: 16, then *enter*, whose 2 passes it over, then *supply* where its levels are not blank
pub record RowRefused (p n : ℕ) (b : Book) (row : List ℕ) : Type 0 where
  pub off : ((layout_of p row).refusal ≡ 0 → ⊥) → line_refusal p n b row ≡ 16
  pub passed : (layout_of p row).refusal ≡ 0 → refusal p b (entering p (layout_of p row)) ≡ 2
      → line_refusal p n b row ≡ 0
  pub entered : (layout_of p row).refusal ≡ 0 → (refusal p b (entering p (layout_of p row)) ≡ 0 → ⊥)
      → (refusal p b (entering p (layout_of p row)) ≡ 2 → ⊥)
      → line_refusal p n b row ≡ refusal p b (entering p (layout_of p row))
  pub blank : (layout_of p row).refusal ≡ 0 → refusal p b (entering p (layout_of p row)) ≡ 0
      → (layout_of p row).fields.computed ≡ 0 → line_refusal p n b row ≡ 0
  pub supplied : (layout_of p row).refusal ≡ 0 → refusal p b (entering p (layout_of p row)) ≡ 0
      → ((layout_of p row).fields.computed ≡ 0 → ⊥)
      → line_refusal p n b row ≡ refusal p (after p b (entering p (layout_of p row))) (supplying p (layout_of p row))
