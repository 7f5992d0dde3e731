-- Inner steps: no promise uses them. The text of listed contours, printed part by part. A cursor says what is printed
-- next; what is left of the text at a cursor is told here. Assumes nothing.
use Rattle.std.specs.Prelude.{◌≡◌, ℕ, zero, suc, ◌+◌, ◌<◌, ◌≤◌, true, cond, ◌⊎◌, List, [], ◌∷◌, ◌++◌, length, take}
use Rattle.std.specs.Prelude.{drop, ◌==◌, nat_lt, slice_index}
use Rattle.std.specs.Borrow.{Bor}
use Rattle.text.specs.Spelled.{bytes}
use Rattle.room.specs.Lent.{Lent, LentRoom}
use Rattle.network.specs.declared.Frame.{Frame}
use Rattle.network.specs.Edges.{edges, Checked}
use Rattle.network.specs.Crossed.{crossed_at}
use Rattle.wkt.specs.declared.Cursor.{Cursor}
use Rattle.wkt.specs.declared.Part.{Part}
use Rattle.wkt.specs.Text.{place_text, comma, closing, points_text, lines_text, multilinestring, empty}
use Rattle.wkt.specs.Text.{text_of, points_of}

-- lines as they are listed: edges one line after the other, and for each line its count and whether it closes, 1 or 0
unfoldable pub lines_from : List ℕ → List ℕ → List ℕ → List (List ℕ)
lines_from edges [] closed = []
lines_from edges (m ∷ counts) closed =
    points_of (take m edges) (slice_index closed 0) ∷ lines_from (drop m edges) counts (drop 1 closed)

unfoldable pub total : List ℕ → ℕ
total [] = 0
total (m ∷ ms) = m + total ms

-- crossed edges of a checked network, listed in lines of one edge or more
pub record Printable (levels : List ℕ) (f : Frame) (v : ℕ) (listed counts closed : List ℕ) : Type 0 where
  pub checked : Checked levels f
  pub crossing : (i : ℕ) → i < length listed → (slice_index listed i < edges f.columns f.rows)
      × (crossed_at levels f.columns f.rows v (slice_index listed i) ≡ true)
  pub some : (k : ℕ) → k < length counts → 0 < slice_index counts k
  pub marked : length closed ≡ length counts
  pub marks : (k : ℕ) → slice_index closed k ≤ 1
  pub summed : total counts ≡ length listed
  pub few : length listed ≤ edges f.columns f.rows

-- the points of the cursor's line, and the lines after it
abbrev pub line_at : (listed counts closed : List ℕ) (c : Cursor) → List ℕ
line_at listed counts closed c =
    points_of (take (slice_index counts c.line) (drop c.start listed)) (slice_index closed c.line)

abbrev pub lines_after : (listed counts closed : List ℕ) (c : Cursor) → List (List ℕ)
lines_after listed counts closed c =
    lines_from (drop (c.start + slice_index counts c.line) listed) (drop (c.line + 1) counts)
    (drop (c.line + 1) closed)

-- how many points the cursor's line prints
abbrev pub points_at : List ℕ → List ℕ → Cursor → ℕ
points_at counts closed c = slice_index counts c.line + slice_index closed c.line

-- a cursor that printing comes by: its line's edges start where those before it end
pub record Reached (listed counts closed : List ℕ) (c : Cursor) : Type 0 where
  pub line : c.line ≤ length counts + 1
  pub start : c.start + total (drop c.line counts) ≡ length listed
  pub point : c.point ≤ points_at counts closed c

-- where a line begins: the text's own beginning stands before the first
abbrev pub from_line : (levels : List ℕ) (f : Frame) (v line : ℕ) (ls : List (List ℕ)) → List ℕ
from_line levels f v line ls = cond (line == 0) (text_of levels f v ls) (lines_text levels f v comma ls)

-- what is left to print at a cursor: nothing past the end
unfoldable pub left_of : (levels : List ℕ) (f : Frame) (v : ℕ) (listed counts closed : List ℕ) (c : Cursor)
    → List ℕ
left_of levels f v listed counts closed c =
    cond (nat_lt (length counts) c.line) []
    (cond (c.point == 0)
    (from_line levels f v c.line
    (lines_from (drop c.start listed) (drop c.line counts) (drop c.line closed)))
    (points_text levels f v comma (drop c.point (line_at listed counts closed c))
    ++ lines_text levels f v comma (lines_after listed counts closed c)))

-- what a step prints: the end of all lines, the end of a line, or a point with what stands before it
abbrev pub end_text : ℕ → List ℕ
end_text line = cond (line == 0) (multilinestring ++ empty) closing

abbrev pub before_text : ℕ → ℕ → List ℕ
before_text line point =
    cond (point == 0) (cond (line == 0) (multilinestring ++ bytes "((") (bytes ", (")) comma

unfoldable pub piece_of : (levels : List ℕ) (f : Frame) (v : ℕ) (listed counts closed : List ℕ) (c : Cursor)
    → List ℕ
piece_of levels f v listed counts closed c =
    cond (c.line == length counts) (end_text c.line)
    (cond (c.point == points_at counts closed c) closing
    (before_text c.line c.point ++ place_text levels f v (slice_index (line_at listed counts closed c) c.point)))

-- and where the cursor goes
abbrev pub next_of : List ℕ → List ℕ → Cursor → Cursor
next_of counts closed c =
    cond (c.line == length counts) (record { line = c.line + 1; start = c.start; point = 0 })
    (cond (c.point == points_at counts closed c)
    (record { line = c.line + 1; start = c.start + slice_index counts c.line; point = 0 })
    (record { line = c.line; start = c.start; point = c.point + 1 }))

-- the cursor some steps on, and what those steps print
unfoldable pub walk : (counts closed : List ℕ) (n : ℕ) (c : Cursor) → Cursor
walk counts closed zero c = c
walk counts closed (suc n) c = next_of counts closed (walk counts closed n c)

unfoldable pub pieces : (levels : List ℕ) (f : Frame) (v : ℕ) (listed counts closed : List ℕ) (n : ℕ)
    (c : Cursor) → List ℕ
pieces levels f v listed counts closed zero c = []
pieces levels f v listed counts closed (suc n) c =
    pieces levels f v listed counts closed n c ++ piece_of levels f v listed counts closed (walk counts closed n c)

-- A part holds the pieces of some steps, and the room past them keeps its bytes. It ends only at the text's end or
-- where the next piece has no room, and not before. What is left at its first cursor is what it holds and then what is
-- left at the next one.
pub record Printed (levels : List ℕ) (f : Frame) (v : ℕ) (listed counts closed : List ℕ) (c : Cursor)
    (room : List ℕ) (part : Part) (room' : List ℕ) : Type 0 where
  pub steps : ℕ
  pub there : part.next ≡ walk counts closed steps c
  pub bytes : take part.size room' ≡ pieces levels f v listed counts closed steps c
  pub fits : part.size ≤ length room
  pub long : length room' ≡ length room
  pub kept : drop part.size room' ≡ drop part.size room
  pub stopped : (length counts < part.next.line)
      ⊎ (length room < part.size + length (piece_of levels f v listed counts closed part.next))
  pub not_before_rule : (m : ℕ) → m < steps → ((walk counts closed m c).line ≤ length counts)
      × (length (pieces levels f v listed counts closed (suc m) c) ≤ length room)
  pub reached : Reached listed counts closed part.next
  pub joined : left_of levels f v listed counts closed c
      ≡ take part.size room' ++ left_of levels f v listed counts closed part.next

-- ---- over lent lists: lines that can be printed, their text, a piece of it and a part

abbrev pub PrintableNow : (levels : Bor (List ℕ)) (f : Frame) (v : ℕ) (listed counts closed : Bor (List ℕ))
    → Type 0
PrintableNow levels f v listed counts closed =
    Printable levels.now f v listed.now counts.now closed.now

abbrev pub text_before : (levels : Lent) (f : Frame) (v : ℕ) (listed counts closed : Lent) → List ℕ
text_before levels f v listed counts closed =
    text_of levels.entry.now f v (lines_from listed.entry.now counts.entry.now closed.entry.now)

abbrev pub piece_before : (levels : Lent) (f : Frame) (v : ℕ) (listed counts closed : Lent) (c : Cursor) → List ℕ
piece_before levels f v listed counts closed c =
    piece_of levels.entry.now f v listed.entry.now counts.entry.now closed.entry.now c

abbrev pub PrintedIn : (levels : Lent) (f : Frame) (v : ℕ) (listed counts closed : Lent) (c : Cursor) (room : LentRoom)
    (part : Part) → Type 0
PrintedIn levels f v listed counts closed c room part =
    Printed levels.entry.now f v listed.entry.now counts.entry.now closed.entry.now c
    room.entry.now part room.exit.now
