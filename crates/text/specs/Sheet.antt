-- Lines as a text, and the one line of a refusal: RULES, "Files and the report program". Assumes nothing.
use Rattle.std.specs.Prelude.{◌≡◌, ℕ, List, [], ◌∷◌, ◌++◌, length, slice_index_or}
use Rattle.text.specs.Number.{show_number}
use Rattle.text.specs.Field.{field_of, joined_by}
use Rattle.text.specs.Line.{lines_of}
use Rattle.text.specs.Spelled.{bytes, byte, crlf}

-- each line with its CRLF, the last one too
unfoldable pub ended : List (List ℕ) → List ℕ
ended [] = []
ended (l ∷ ls) = l ++ (crlf ++ ended ls)

-- fields are parted by a comma
abbrev pub comma : ℕ
comma = byte ","

abbrev pub line : List (List ℕ) → List ℕ
line fields = joined_by comma fields

-- a refusal: its one line, refused,number,line
unfoldable pub refused_text : (number line : ℕ) → List ℕ
refused_text number n = ended (line (bytes "refused" ∷ show_number number ∷ show_number n ∷ []) ∷ [])

-- read back: a text of one line and nothing else
pub record Refuses (text : List ℕ) (number line : ℕ) : Type 0 where
  pub one : length (lines_of text) ≡ 1
  pub word : field_of (byte ",") 0 (slice_index_or (lines_of text) 0 []) ≡ bytes "refused"
  pub number= : field_of (byte ",") 1 (slice_index_or (lines_of text) 0 []) ≡ show_number number
  pub line= : field_of (byte ",") 2 (slice_index_or (lines_of text) 0 []) ≡ show_number line
