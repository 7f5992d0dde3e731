-- A register that is accepted has its header and no line that is refused: RULES, "Files and the report program".
-- Assumes nothing.
use Rattle.std.specs.Prelude.{ℕ, ◌+◌, ◌*◌, ◌≤◌, ◌<◌, ◌≡◌, List, [], length, get_or, take}
use Rattle.book_rules.specs.Columns.{Book}
use Rattle.text.specs.Line.{lines_of}
use Rattle.text.specs.Spelled.{bytes}
use Rattle.stream.specs.Reading.{opening, lines_read}
use Rattle.report_steps.specs.Reading.{line_refusal, register_step}

-- a register read into the book b, where limits.csv has p points
pub record RegisterAccepted (p : ℕ) (b : Book) (register : List ℕ) : Type 0 where
  -- it has a first line, which is the header of p points, 1 to 8
  pub some : 1 ≤ length (lines_of register)
  pub points : (1 ≤ p) × (p ≤ 8)
  pub header : get_or (lines_of register) 0 []
      ≡ take (22 + 3 * p) (bytes "id,type,mtow,kind,time,l1,l2,l3,l4,l5,l6,l7,l8")
  -- and none of its lines is refused on the book that the lines before it leave
  pub each : (i : ℕ) → i < length (lines_of register)
      → line_refusal p (i + 1) (lines_read (register_step p) (opening b) (take i (lines_of register))).held
      (get_or (lines_of register) i [])
      ≡ 0
