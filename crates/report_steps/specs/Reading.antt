-- A register read whole, from its bytes to the book: RULES, "Files and the report program".
-- Assumes nothing.
use Rattle.std.specs.Prelude.{ℕ, cond, List, ◌==◌}
use Rattle.book_rules.specs.Columns.{Book}
use Rattle.std.specs.Prelude.{Option, Some, None}
use Rattle.register.specs.Header.{header_of, register_header}
use Rattle.stream.specs.Reading as stream
use Rattle.stream.specs.Reading.{Step, whole_read}
use Rattle.report_steps.specs.Intake.{taken_number, row_taken, row_after}

-- how far a register is read, and the book that it gives so far
abbrev pub Reading : Type 0
Reading = stream.Reading Book

-- the first line is the header with as many levels as there are points
abbrev pub points_refusal : ℕ → Option ℕ → ℕ
points_refusal p (Some n) = cond (n == p) 0 16
points_refusal p None = 16

abbrev pub header_points : List ℕ → Option ℕ
header_points line = header_of register_header 22 line

-- line n of a register, on a book: the header, then rows
unfoldable pub line_refusal : (p n : ℕ) (b : Book) (line : List ℕ) → ℕ
line_refusal p n b line = cond (n == 1) (points_refusal p (header_points line)) (taken_number (row_taken p b line))

unfoldable pub line_after : (p n : ℕ) (b : Book) (line : List ℕ) → Book
line_after p n b line = cond (n == 1) b (row_after p b line)

abbrev pub register_step : (p : ℕ) → Step Book
register_step p = record { refusal = λ n b line. line_refusal p n b line; after = λ n b line. line_after p n b line }

-- a register of p points, whole, into a book
abbrev pub registered : ℕ → Book → List ℕ → Reading
registered p b bytes = whole_read (register_step p) b bytes
