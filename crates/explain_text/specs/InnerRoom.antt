-- Inner steps: no promise uses them. What the writers of the text ask and leave: room for the longest text. Assumes
-- nothing.
use Rattle.std.specs.Prelude.{◌≡◌, ℕ, List, ◌∷◌, ◌++◌}
use Rattle.movement.specs.Group.{group_period}
use Rattle.book_rules.specs.Columns.{Book}
use Rattle.refusal.specs.Refusal.{told}
use Rattle.room.specs.Room.{Wrote}
use Rattle.text.specs.Sheet.{comma}
use Rattle.text.specs.Spelled.{crlf}
use Rattle.text.specs.Number.{show_number}
use Rattle.register.specs.LimitsFile.{LimitsFile}
use Rattle.report_text.specs.declared.inner.Report.{Report}
use Rattle.report_text.specs.Text.{book_refusal}
use Rattle.explain_text.specs.declared.amounts.Amounts.{Amounts}
use Rattle.explain_text.specs.Text.{type_text, kind_text, period_text, factor_text, explain_text}

-- a letter, and a period of at most 7 bytes, each with its comma; and two letters and a period
abbrev pub longest_letter : ℕ
longest_letter = 2

abbrev pub longest_period : ℕ
longest_period = 8

abbrev pub longest_names : ℕ
longest_names = 12

-- two numbers with their commas; and a factor: two numbers, a comma and a slash
abbrev pub longest_pair : ℕ
longest_pair = 42

abbrev pub longest_factor : ℕ
longest_factor = 42

-- four numbers and a factor, and the CRLF
abbrev pub longest_amounts : ℕ
longest_amounts = 128

-- the longest line with its CRLF, which is a group's: a number, three names and the amounts
abbrev pub longest_line : ℕ
longest_line = 160

-- a line for each group; and for a point one more, `all`
abbrev pub longest_groups : ℕ
longest_groups = 2880

abbrev pub longest_point : ℕ
longest_point = 3040

-- the header with its CRLF, and eight points behind it
abbrev pub header_size : ℕ
header_size = 63

abbrev pub longest_text : ℕ
longest_text = 24383

-- what of a line stands behind the point's number: the names of a group, and the amounts with the end of the line
abbrev pub names : ℕ → List ℕ
names g = (comma ∷ type_text g) ++ ((comma ∷ kind_text g) ++ (comma ∷ period_text (group_period g)))

abbrev pub pair : ℕ → ℕ → List ℕ
pair m n = (comma ∷ show_number m) ++ (comma ∷ show_number n)

unfoldable pub amounts_text : Amounts → List ℕ
amounts_text a =
    pair a.computed a.missing
    ++ ((comma ∷ factor_text a.upper a.lower) ++ (pair a.energy a.counted ++ crlf))

-- the whole text at the front of a buffer, and its refusal for the sentence that goes with it
pub record Explained (l : LimitsFile) (b : Book) (old : List ℕ) (r : Report) (new : List ℕ) : Type 0 where
  pub wrote : Wrote old 0 (explain_text l b) new r.size
  pub refused : told r.outcome ≡ book_refusal l b
