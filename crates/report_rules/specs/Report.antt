-- The whole report, from bytes to bytes: RULES, "Files and the report program".
-- Assumes nothing.
use Rattle.std.specs.Prelude.{ℕ, ◌≡◌, cond, List, [], length, eqb}
use Rattle.channel.specs.System.{Origin, First, Whole, Broken}
use Rattle.channel.specs.System.Origin.{input, file}
use Rattle.book_rules.specs.Columns.{Book}
use Rattle.book_rules.specs.History.{empty_book}
use Rattle.register.specs.LimitsFile.{LimitsFile}
use Rattle.register.specs.LimitsFile.{limits_of}
use Rattle.stream.specs.Coming.{Coming, Heard, Of}
use Rattle.report_steps.specs.Stream.{longest_row}
use Rattle.report_steps.specs.Reading.{Reading, registered}
use Rattle.text.specs.Sheet.{refused_text}
use Rattle.text.specs.Spelled.{bytes}
use Rattle.report_text.specs.Text.{book_text}

-- the report program's own book has 2,000 rows
abbrev pub book_rows : ℕ
book_rows = 2000

-- the text that a program makes of a book
abbrev pub Telling : Type 0
Telling = LimitsFile → Book → List ℕ

-- the answer to a register that was read: the text of its book, or its refusal and line
unfoldable pub reading_text : Telling → LimitsFile → Reading → List ℕ
reading_text tell l s = cond (eqb s.refusal 0) (tell l s.held) (refused_text s.refusal s.line)

-- the answer to a register, where limits.csv is accepted: it is read into an empty book
unfoldable pub register_text : Telling → LimitsFile → List ℕ → List ℕ
register_text tell l register =
    reading_text tell l (registered l.points (empty_book l.points book_rows) register)

-- limits.csv is judged first
unfoldable pub answer_text : Telling → LimitsFile → List ℕ → List ℕ
answer_text tell l register =
    cond (eqb l.refusal 0) (register_text tell l register) (refused_text l.refusal l.line)

-- the bytes of limits.csv and the bytes of the register give the bytes of the output; the report's tell of the book
unfoldable pub answer_of : Telling → (limits register : List ℕ) → List ℕ
answer_of tell limits register = answer_text tell (limits_of limits) register

abbrev pub report_of : (limits register : List ℕ) → List ℕ
report_of limits register = answer_of book_text limits register

-- How the bytes came

-- past so many bytes of limits.csv nothing counts any more
abbrev pub limits_room : ℕ
limits_room = 4096

-- the text that goes with how the register came: of all bytes; the same whatever would follow; or, since a read that
-- fails is never an end, that of a register whose line being read goes on for longer than any line on its layout
abbrev pub Answers : (List ℕ → List ℕ) → Coming → List ℕ → Type 0
Answers answer came text = Of longest_row came (λ register. text ≡ answer register)

-- the file of that name in the current folder
abbrev pub limits_origin : Origin
limits_origin = file (bytes "limits.csv")

-- limits.csv: all its bytes; as many as the program has room for; or none, where it can't be opened or read
pub data Opened (limits : List ℕ) : Type 0 where
  all : Whole limits_origin limits → Opened limits
  cut : First limits_origin limits → length limits ≡ limits_room → Opened limits
  unread : (bytes : List ℕ) → Broken limits_origin bytes → limits ≡ [] → Opened limits

-- a text that may be written: it is the program's of the bytes that came
pub record Written (tell : Telling) (limits text : List ℕ) : Type 0 where
  pub opened : Opened limits
  pub came : Coming
  pub heard : Heard input came
  pub is : Answers (answer_of tell limits) came text

-- of whatever limits.csv was
pub record MayWrite (tell : Telling) (text : List ℕ) : Type 0 where
  pub limits : List ℕ
  pub written : Written tell limits text
