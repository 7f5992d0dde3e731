-- The lines of a text, one after another, whatever each line does: RULES, "Files and the report program".
-- Assumes nothing.
use Rattle.std.specs.Prelude.{◌≡◌, ℕ, ◌+◌, ◌<◌, cond, ◌&&◌, List, [], ◌∷◌, ◌++◌, length, ◌==◌}
use Rattle.text.specs.Line.{first_line, lines_of, bare_line}

-- What line n does where so much is held: its refusal, 0 for none, and what is held after it
pub record Step (A : Type 0) : Type 0 where
  pub refusal : (n : ℕ) (held : A) (line : List ℕ) → ℕ
  pub after : (n : ℕ) (held : A) (line : List ℕ) → A

-- how far a text is read: its refusal, 0 for none; the line that is refused, or else the next one; and what is held
pub record Reading (A : Type 0) : Type 0 where
  pub refusal : ℕ
  pub line : ℕ
  pub held : A

abbrev pub reading_at : {A : Type 0} → ℕ → ℕ → A → Reading A
reading_at r n a = record { refusal = r; line = n; held = a }

-- the reading past one line more
unfoldable pub line_read : {A : Type 0} → Step A → Reading A → List ℕ → Reading A
line_read step s line =
    record {
      refusal = step.refusal s.line s.held line;
      line = cond (step.refusal s.line s.held line == 0) (s.line + 1) s.line;
      held = step.after s.line s.held line;
    }

-- lines in their order, up to the first that is refused
unfoldable pub lines_read : {A : Type 0} → Step A → Reading A → List (List ℕ) → Reading A
lines_read step s [] = s
lines_read step s (l ∷ ls) = cond (s.refusal == 0) (lines_read step (line_read step s l) ls) s

abbrev pub read_on : {A : Type 0} → Step A → Reading A → List ℕ → Reading A
read_on step s bytes = lines_read step s (lines_of bytes)

-- nothing is read yet
abbrev pub opening : {A : Type 0} → A → Reading A
opening a = record { refusal = 0; line = 1; held = a }

-- a text that has no line has no header
unfoldable pub closing : {A : Type 0} → Reading A → Reading A
closing s = cond (s.refusal == 0 && s.line == 1) (record { refusal = 16; line = 1; held = s.held }) s

-- the reading that is refused 16 at its line
abbrev pub off_at : {A : Type 0} → Reading A → Reading A
off_at s = record { refusal = 16; line = s.line; held = s.held }

-- a whole text
unfoldable pub whole_read : {A : Type 0} → Step A → A → List ℕ → Reading A
whole_read step a bytes = closing (read_on step (opening a) bytes)

-- Bytes as they come

-- to read `all` from s on, whatever follows it, is to read `rest` from s' on with the same behind it
pub record Onward {A : Type 0} (step : Step A) (s : Reading A) (all : List ℕ) (s' : Reading A)
    (rest : List ℕ) : Type 0 where
  pub same : (t : List ℕ) → read_on step s (all ++ t) ≡ read_on step s' (rest ++ t)

-- no line of these bytes is ended by a CRLF
abbrev pub Unended : List ℕ → Type 0
Unended s = length s < length (first_line s) + 2

-- a line longer than the longest on its layout is off it, and leaves what is held
pub record Longest {A : Type 0} (step : Step A) (row : ℕ) : Type 0 where
  pub off : (n : ℕ) (a : A) (line : List ℕ) → row < length (bare_line line) → step.refusal n a line ≡ 16
  pub kept : (n : ℕ) (a : A) (line : List ℕ) → row < length (bare_line line) → step.after n a line ≡ a
