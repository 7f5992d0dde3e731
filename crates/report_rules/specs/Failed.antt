-- What is told where a read fails, which is never an end: RULES, "Files and the report program".
-- Assumes nothing.
use Rattle.std.specs.Prelude.{ℕ, ◌+◌, ◌≤◌, ◌≡◌, List, [], ◌++◌, get_or, take}
use Rattle.book_rules.specs.History.{empty_book}
use Rattle.text.specs.Sheet.{refused_text}
use Rattle.text.specs.Line.{lines_of}
use Rattle.register.specs.LimitsFile.{limits_of}
use Rattle.stream.specs.{Coming.endless, Refused.line_being_read}
use Rattle.stream.specs.Reading.{opening, lines_read}
use Rattle.report_steps.specs.Stream.{longest_row}
use Rattle.report_steps.specs.Reading.{Reading, line_refusal, register_step}
use Rattle.report_rules.specs.Report.{book_rows}

-- so many lines of the bytes and of what is thought behind them, read into the report's book
abbrev pub read_lines : (limits bytes : List ℕ) → ℕ → Reading
read_lines limits bytes n =
    let p = (limits_of limits).points in
    lines_read (register_step p) (opening (empty_book p book_rows)) (take n (lines_of (bytes ++ endless longest_row)))

-- Where limits.csv is accepted and a read fails behind some bytes of the register, the text is one refusal, and never
-- that of a book: a line that came is refused as ever, or else 16 at the line being read
pub record FailedTold (limits bytes text : List ℕ) : Type 0 where
  pub number : ℕ
  pub line : ℕ
  pub told : text ≡ refused_text number line
  pub some : number ≡ 0 → ⊥
  pub up_to : line ≤ line_being_read bytes
  pub sixteen : line ≡ line_being_read bytes → number ≡ 16
  -- the lines before it are read without a refusal, and on the book that they leave it is refused so
  pub before : ℕ
  pub line= : line ≡ before + 1
  pub fine : (read_lines limits bytes before).refusal ≡ 0
  pub number= : number
      ≡ line_refusal (limits_of limits).points line (read_lines limits bytes before).held
      (get_or (lines_of (bytes ++ endless longest_row)) before [])
