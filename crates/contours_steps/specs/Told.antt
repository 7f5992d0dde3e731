-- What a person may count on in what the program contours writes. Assumes nothing.
use Rattle.std.specs.Prelude.{◌≡◌, ℕ, suc, ◌+◌, ◌<◌, ◌≤◌, cond, ◌&&◌, List, [], ◌∷◌, ◌++◌, length, get_or, ◌==◌, ◌≢◌}
use Rattle.std.specs.Prelude.{slice_index, slice_index_or}
use Rattle.text.specs.Number.{shown, show_thousandths, InThousandths}
use Rattle.text.specs.Spelled.{bytes}
use Rattle.text.specs.Line.{lines_of}
use Rattle.grid.specs.File.{fault_line}
use Rattle.grid.specs.Read.{text_frame, text_levels, read_refusal}
use Rattle.wkt.specs.Calls.{network_text}
use Rattle.contours_steps.specs.Words.{max_word}
use Rattle.contours_steps.specs.Sheet.{max_text, text_refusal, refusal_of, refused_line, written_of}
use Rattle.contours_steps.specs.Sheet.{line_begun, failed_of, overlong_line, overlong_of}

abbrev pub heading_text : List ℕ
heading_text = bytes "level;wkt"

-- a word that spells a contour level in thousandths: from 0.001 to 150.000, with three decimals or with two, and no
-- needless zero in front
pub record Spells (w : List ℕ) : Type 0 where
  pub level : ℕ
  pub least : 1 ≤ level
  pub most : level ≤ 150000
  pub spelled : InThousandths w level

-- each word spells a level
abbrev pub AllSpell : List (List ℕ) → Type 0
AllSpell words = (i : ℕ) → i < length words → Spells (slice_index_or words i [])

-- Where nothing is refused, each word has one line, in the order given: the level that it spells, with three decimals,
-- a semicolon, and the text of the contours at that level
pub record EachWord (text : List ℕ) (words : List (List ℕ)) : Type 0 where
  pub many : length (lines_of (written_of text words)) ≡ 1 + length words
  pub heading : get_or (lines_of (written_of text words)) 0 [] ≡ heading_text
  pub spell : AllSpell words
  pub line : (i : ℕ) (h : i < length words)
      → slice_index_or (lines_of (written_of text words)) (suc i) []
      ≡ show_thousandths (spell i h).level
      ++ (bytes ";" ++ network_text (text_levels text) (text_frame text) (spell i h).level)

-- What is refused is written as one line and nothing else: the network before the words, 17 with the first line at
-- fault, the others with line 0; and nothing is refused exactly if the network is not and there are words, 15,000 at
-- most, that all spell a level
pub record Judged (text : List ℕ) (words : List (List ℕ)) : Type 0 where
  pub off_layout_rule : 1 ≤ fault_line (lines_of text) → written_of text words
      ≡ refused_line 17 (fault_line (lines_of text))
  pub network : fault_line (lines_of text) ≡ 0 → (text_refusal text ≢ 0)
      → written_of text words ≡ refused_line (text_refusal text) 0
  pub no_word : text_refusal text ≡ 0 → length words ≡ 0 → written_of text words ≡ refused_line 15 0
  pub a_word : text_refusal text ≡ 0 → (i : ℕ) → i < length words → (Spells (slice_index_or words i []) → ⊥)
      → written_of text words ≡ refused_line 15 0
  pub many_words : text_refusal text ≡ 0 → AllSpell words → 15000 < length words
      → written_of text words ≡ refused_line 14 0
  pub drawn : text_refusal text ≡ 0 → AllSpell words → 1 ≤ length words → length words ≤ 15000
      → refusal_of text words ≡ 0

-- The program's own room is never too small for a network: what is right but for the room is drawn. And a network is
-- refused as the call that reads it refuses it, in any room for a header and for 256 times 256 points
pub record NeverShort (text : List ℕ) : Type 0 where
  pub network : text_refusal text ≡ 14 → ⊥
  pub as_read : (headers room : ℕ) → 5 ≤ headers → 65536 ≤ room
      → text_refusal text ≡ read_refusal text headers room

-- Nor is its room for a word: one that spells a level is handed over as it is, and not as an empty one
pub record WordsFit : Type 0 where
  pub word : (w : List ℕ) → Spells w → length w ≤ max_word

-- The room for a network is as large as it has to be: a text that is neither 17 nor 12 has at most 590,175 bytes, and
-- the room is one byte more, so that the end is seen. One such text has as many, which is 13; in a room of its own size
-- it would be taken for one that is too long, and 12 would be told
pub record RoomNeeded : Type 0 where
  pub most : (text : List ℕ) → (text_refusal text ≢ 17) → (text_refusal text ≢ 12)
      → length text ≤ 590175
  pub room : max_text ≡ 590175 + 1
  pub longest : List ℕ
  pub long : length longest ≡ 590175
  pub thirteen : text_refusal longest ≡ 13
  pub cut : overlong_of longest ≡ refused_line 12 0

-- The line of a refusal: `refused,`, the number, a comma and the line, each in as many digits as it needs, and a line
-- end
pub record RefusalSpelled : Type 0 where
  pub each : (number line : ℕ)
      → refused_line number line
      ≡ bytes "refused," ++ (shown 20 number ++ (bytes "," ++ (shown 20 line ++ (13 ∷ 10 ∷ []))))
  pub of_line_rule : refused_line 17 65542 ≡ bytes "refused,17,65542" ++ (13 ∷ 10 ∷ [])
  pub of_whole : refused_line 12 0 ≡ bytes "refused,12,0" ++ (13 ∷ 10 ∷ [])

-- how many line ends a text has: places of a CR, 13, with an LF, 10, behind it
unfoldable pub line_ends : List ℕ → ℕ
line_ends [] = 0
line_ends (c ∷ s) = cond (c == 13 && slice_index s 0 == 10) 1 0 + line_ends s

-- Of bytes that can't be read on the line past their last line end is told, with 17 and nothing else
pub record FailsPast (front : List ℕ) : Type 0 where
  pub begun : line_begun front ≡ 1 + line_ends front
  pub told : failed_of front ≡ refused_line 17 (1 + line_ends front)

-- Of a text whose first bytes fill the program's room: a line that is told, and that they end, is the first at fault
-- of the whole text, whatever follows; and 12 is right of the whole text where no line of it is at fault. Where one is,
-- but past the room, 12 is told all the same
pub record FillsRoom (front : List ℕ) : Type 0 where
  pub line : (u : List ℕ) → 1 ≤ overlong_line front → overlong_line front < line_begun front
      → fault_line (lines_of (front ++ u)) ≡ overlong_line front
  pub twelve : (u : List ℕ) → fault_line (lines_of (front ++ u)) ≡ 0 → text_refusal (front ++ u) ≡ 12

-- And none is kept back: where the first line at fault of the whole text has its line end in the room, that line is
-- told; so is one of the header's five, ended or not. A line past the header is told only if it is ended, and a line
-- that is told is the first at fault of the bytes in the room. What is told is one line and nothing else
pub record TellsWithin (front : List ℕ) : Type 0 where
  pub within : (u : List ℕ) → 1 ≤ fault_line (lines_of (front ++ u))
      → fault_line (lines_of (front ++ u)) ≤ line_ends front
      → overlong_line front ≡ fault_line (lines_of (front ++ u))
  pub header : fault_line (lines_of front) ≤ 5 → overlong_line front ≡ fault_line (lines_of front)
  pub ended : 5 < overlong_line front → overlong_line front ≤ line_ends front
  pub own : 1 ≤ overlong_line front → overlong_line front ≡ fault_line (lines_of front)
  pub told : 1 ≤ overlong_line front → overlong_of front ≡ refused_line 17 (overlong_line front)
  pub many : overlong_line front ≡ 0 → overlong_of front ≡ refused_line 12 0
