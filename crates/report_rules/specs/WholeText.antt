-- The report to its last byte, and 10 for a whole book: RULES, "Files and the report program".
-- Assumes nothing.
use Rattle.std.specs.Prelude.{ℕ, suc, ◌+◌, ◌≤◌, ◌<◌, ◌≡◌, ◌⊎◌, List, [], ◌∷◌, ◌++◌, length, get_or}
use Rattle.book_rules.specs.History.{Movement, empty_book}
use Rattle.text.specs.Line.{lines_of}
use Rattle.text.specs.Field.{count_of}
use Rattle.text.specs.Number.{show_number}
use Rattle.text.specs.Spelled.{bytes}
use Rattle.register.specs.LimitsFile.{limits_of}
use Rattle.report_steps.specs.Reading.{Reading, registered}
use Rattle.report_rules.specs.Report.{book_rows, report_of}
use Rattle.report_rules.specs.Flights.{rows_in, flights_in, how_many, computed, ReportSays}

-- a line ends in CR and LF
abbrev pub crlf : List ℕ
crlf = 13 ∷ 10 ∷ []

-- refused,number,line
abbrev pub refusal_bytes : (number line : ℕ) → List ℕ
refusal_bytes number line = bytes "refused," ++ (show_number number ++ (bytes "," ++ (show_number line ++ crlf)))

-- the register as it is read where limits.csv is accepted, and its flights
abbrev pub read_in : (limits register : List ℕ) → Reading
read_in limits register = registered (limits_of limits).points (empty_book (limits_of limits).points book_rows) register

abbrev pub flights : (limits register : List ℕ) → List Movement
flights limits register = flights_in (limits_of limits).points (rows_in register)

-- a text of the header and a line for each point, each of six fields, and with its last CRLF
pub record Whole (points : ℕ) (text : List ℕ) : Type 0 where
  pub lines : length (lines_of text) ≡ 1 + points
  pub six : (point : ℕ) → point < points → count_of 44 (get_or (lines_of text) (suc point) []) ≡ 5
  pub before : List ℕ
  pub ended : text ≡ before ++ crlf

-- The report is one of four texts, whatever the two files hold
pub record WholeText (limits register : List ℕ) : Type 0 where
  pub by_limits : ((limits_of limits).refusal ≡ 0 → ⊥)
      → report_of limits register ≡ refusal_bytes (limits_of limits).refusal (limits_of limits).line
  pub by_register : (limits_of limits).refusal ≡ 0 → ((read_in limits register).refusal ≡ 0 → ⊥)
      → report_of limits register ≡ refusal_bytes (read_in limits register).refusal (read_in limits register).line
  -- flights stand, none of them with levels: 10, which is of the whole book and has line 0
  pub ten : (limits_of limits).refusal ≡ 0 → (read_in limits register).refusal ≡ 0
      → 1 ≤ length (flights limits register) → how_many computed (flights limits register) ≡ 0
      → report_of limits register ≡ bytes "refused,10,0" ++ crlf
  -- and in every other case the points
  pub points : (limits_of limits).refusal ≡ 0 → (read_in limits register).refusal ≡ 0
      → (length (flights limits register) ≡ 0) ⊎ (1 ≤ how_many computed (flights limits register))
      → ReportSays limits register × Whole (limits_of limits).points (report_of limits register)
