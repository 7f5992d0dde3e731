-- Which register is accepted, and what of any other is told, line by line: RULES, "Files and the report program".
-- Assumes nothing.
use Rattle.std.specs.Prelude.{ℕ, ◌+◌, ◌*◌, ◌≤◌, ◌<◌, ◌≡◌, List, [], ◌∷◌, length, get_or, take}
use Rattle.book_rules.specs.History.{empty_book}
use Rattle.text.specs.Line.{lines_of}
use Rattle.text.specs.Spelled.{bytes}
use Rattle.report_steps.specs.Reading.{Reading, line_refusal, registered}
use Rattle.report_rules.specs.Report.{book_rows}
use Rattle.report_rules.specs.Flights.{book_in}

-- the header of p points
abbrev pub header_line : ℕ → List ℕ
header_line p = take (22 + 3 * p) (bytes "id,type,mtow,kind,time,l1,l2,l3,l4,l5,l6,l7,l8")

-- a register of p points as the report reads it, and that it is refused with this number at this line
abbrev pub read_of : (p : ℕ) (register : List ℕ) → Reading
read_of p register = registered p (empty_book p book_rows) register

abbrev pub ToldAt : Reading → (number line : ℕ) → Type 0
ToldAt s number line = (s.refusal ≡ number) × (s.line ≡ line)

-- The lines of a register that is accepted are the first of another, which has more
pub record Begins (p : ℕ) (front register : List ℕ) : Type 0 where
  pub lines : lines_of front ≡ take (length (lines_of front)) (lines_of register)
  pub more : length (lines_of front) < length (lines_of register)
  pub accepted : (read_of p front).refusal ≡ 0

-- what the line behind them is refused for, on the book that they give; 0 for nothing
abbrev pub next_refusal : (p : ℕ) (front register : List ℕ) → ℕ
next_refusal p front register =
    line_refusal p (length (lines_of front) + 1) (book_in p front)
    (get_or (lines_of register) (length (lines_of front)) [])

-- What a register gets, from its first line to its last
pub record RegisterExactly (p : ℕ) (register : List ℕ) : Type 0 where
  -- no line, or a first one that isn't the header: 16 at line 1
  pub empty : length (lines_of register) ≡ 0 → ToldAt (read_of p register) 16 1
  pub headless : (get_or (lines_of register) 0 [] ≡ header_line p → ⊥) → ToldAt (read_of p register) 16 1
  -- the header and no row: accepted
  pub header : 1 ≤ p → p ≤ 8 → lines_of register ≡ header_line p ∷ [] → (read_of p register).refusal ≡ 0
  -- the next line is refused: its number, at its own line, whatever follows it
  pub next : (front : List ℕ) → Begins p front register → (next_refusal p front register ≡ 0 → ⊥)
      → ToldAt (read_of p register) (next_refusal p front register) (length (lines_of front) + 1)
  -- it isn't, and is the last one: accepted
  pub last : (front : List ℕ) → Begins p front register → next_refusal p front register ≡ 0
      → length (lines_of register) ≡ length (lines_of front) + 1
      → (read_of p register).refusal ≡ 0
