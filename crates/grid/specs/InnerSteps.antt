-- Inner steps: no promise uses them. What the parts of reading answer, each over the rest of a text or of a line, and
-- what those of writing ask. Assumes nothing.
use Rattle.std.specs.Prelude.{◌≡◌, ℕ, ◌+◌, ◌-◌, ◌<◌, ◌≤◌, Bool, true, false, cond, ◌&&◌, List, [], ◌∷◌, ◌++◌, map}
use Rattle.std.specs.Prelude.{length, take, drop, nat_le, slice_index, slice_index_or, slice_range}
use Rattle.text.specs.Number.{show_thousandths}
use Rattle.text.specs.Line.{lines_of}
use Rattle.text.specs.Spelled.{crlf}
use Rattle.std.specs.Prelude.{Option, Some, None, Result, Ok, Err}
use Rattle.refusal.specs.Refuse.{refuse}
use Rattle.network.specs.Limits.{max_network_level, max_origin}
use Rattle.network.specs.Refusals.{sided, placed}
use Rattle.network.specs.declared.Frame.{Frame}
use Rattle.grid.specs.Row.{all, values_of, given, is_value, is_row, has_values, level_in}
use Rattle.grid.specs.File.{ncols, nrows, xllcenter, yllcenter, cellsize, unnamed, number_after}
use Rattle.grid.specs.File.{names, names_well, spelled_in, head_on, frame_of, no_data_of, rows_of, first_off}
use Rattle.grid.specs.File.{fault_line, rows_fit}
use Rattle.grid.specs.Write.{key_line}
use Rattle.grid.specs.declared.head.Line.{Line}
use Rattle.grid.specs.declared.head.Fault.{Fault}
use Rattle.grid.specs.declared.head.Keyed.{Keyed}
use Rattle.grid.specs.declared.head.Head.{Head}
use Rattle.grid.specs.declared.head.Named.{Named}
use Rattle.grid.specs.declared.judge.Row.{Row}
use Rattle.grid.specs.declared.judge.File.{File}

-- the lines from a place on, and the first of them
abbrev pub lines_at : List ℕ → ℕ → List (List ℕ)
lines_at s at = lines_of (drop at s)

abbrev pub line_from : List ℕ → ℕ → List ℕ
line_from s at = slice_index_or (lines_at s at) 0 []

-- past the line at `at` the other lines go on at `next`
pub record Passed (s : List ℕ) (at next : ℕ) : Type 0 where
  pub inside : next ≤ length s
  pub rest : lines_at s next ≡ drop 1 (lines_at s at)

-- the line that starts at `at`
pub record LineAt (s : List ℕ) (at : ℕ) (l : Line) : Type 0 where
  pub start : at ≤ l.end
  pub within : l.end ≤ length s
  pub moves : at < length s → at < l.next
  pub line : take (l.end - at) (drop at s) ≡ line_from s at
  pub passed : Passed s at l.next

-- the number of the header line at `at`, which is line `line` of its text
abbrev pub key_read : (s : List ℕ) (at line : ℕ) (key : List ℕ) → Result Keyed Fault → Type 0
key_read s at line key (Ok k) = (number_after key (line_from s at) ≡ Some k.number) × Passed s at k.next
key_read s at line key (Err fault) = (number_after key (line_from s at) ≡ None) × (fault.line ≡ line)

-- the five header lines
abbrev pub head_read : List ℕ → Result Head Fault → Type 0
head_read s (Ok head) =
    (first_off 1 (head_on (lines_of s)) ≡ 0) × (frame_of (lines_of s) ≡ head.frame) × (head.next ≤ length s)
    × (lines_at s head.next ≡ drop 5 (lines_of s))
head_read s (Err fault) = (first_off 1 (head_on (lines_of s)) ≡ fault.line) × (1 ≤ fault.line)

-- the line at `at` as one that may name the no-data value
abbrev pub no_data_read : List ℕ → ℕ → Result (Option Named) Fault → Type 0
no_data_read s at (Ok (Some named)) =
    (names (line_from s at) ≡ true) × (names_well (line_from s at) ≡ true) × (named.start ≤ named.end)
    × (named.end ≤ length s) × (slice_range s named.start named.end ≡ spelled_in (line_from s at))
    × Passed s at named.next
no_data_read s at (Ok None) = names (line_from s at) ≡ false
no_data_read s at (Err fault) =
    (names (line_from s at) ≡ true) × (names_well (line_from s at) ≡ false) × (fault.line ≡ 6)

-- one value: whether it is sound, which no data and too high a level are not, or that it is none
abbrev pub is_sound : List ℕ → List ℕ → Bool
is_sound nodata t = given nodata t && nat_le (level_in t) max_network_level

unfoldable pub value_read : List ℕ → List ℕ → Option Bool
value_read nodata t = cond (is_value nodata t) (Some (is_sound nodata t)) None

abbrev pub row_sound : List ℕ → List ℕ → Bool
row_sound nodata line = all (is_sound nodata) (values_of line)

unfoldable pub row_of : List ℕ → List ℕ → Option Row
row_of nodata line =
    cond (is_row nodata line) (Some (record { values = length (values_of line); sound = row_sound nodata line })) None

-- rows from `from` on, the first of which is line `first`
abbrev pub rows_read : (s : List ℕ) (from : ℕ) (nodata : List ℕ) (frame : Frame) (first : ℕ)
    → Result File Fault → Type 0
rows_read s from nodata frame first (Ok file) =
    (first_off first (map (is_row nodata) (lines_at s from)) ≡ 0) × (file.frame ≡ frame) × (file.rows ≡ from)
    × (file.fits ≡ rows_fit frame (lines_at s from)) × (file.sound ≡ all (row_sound nodata) (lines_at s from))
rows_read s from nodata frame first (Err fault) =
    (first_off first (map (is_row nodata) (lines_at s from)) ≡ fault.line) × (1 ≤ fault.line)

-- what follows the five header lines, from `at` on
abbrev pub body_on : List ℕ → ℕ → List Bool
body_on s at =
    cond (names (line_from s at))
    (names_well (line_from s at) ∷ map (is_row (spelled_in (line_from s at))) (drop 1 (lines_at s at)))
    (map (is_row unnamed) (lines_at s at))

abbrev pub body_rows : List ℕ → ℕ → List (List ℕ)
body_rows s at = cond (names (line_from s at)) (drop 1 (lines_at s at)) (lines_at s at)

abbrev pub body_no_data : List ℕ → ℕ → List ℕ
body_no_data s at = cond (names (line_from s at)) (spelled_in (line_from s at)) unnamed

abbrev pub body_read : (s : List ℕ) (at : ℕ) (frame : Frame) → Result File Fault → Type 0
body_read s at frame (Ok file) =
    (first_off 6 (body_on s at) ≡ 0) × (file.frame ≡ frame) × (file.rows ≤ length s)
    × (lines_at s file.rows ≡ body_rows s at) × (file.fits ≡ rows_fit frame (body_rows s at))
    × (file.sound ≡ all (row_sound (body_no_data s at)) (body_rows s at))
body_read s at frame (Err fault) = (first_off 6 (body_on s at) ≡ fault.line) × (1 ≤ fault.line)

-- what a text on its layout is judged to be
pub record Judged (s : List ℕ) (file : File) : Type 0 where
  pub frame : file.frame ≡ frame_of (lines_of s)
  pub inside : file.rows ≤ length s
  pub rows : lines_at s file.rows ≡ rows_of (lines_of s)
  pub fitted : file.fits ≡ rows_fit file.frame (rows_of (lines_of s))
  pub levels : file.sound ≡ all (row_sound (no_data_of (lines_of s))) (rows_of (lines_of s))

abbrev pub file_read : List ℕ → Result File Fault → Type 0
file_read s (Ok file) = (fault_line (lines_of s) ≡ 0) × Judged s file
file_read s (Err fault) = (fault_line (lines_of s) ≡ fault.line) × (1 ≤ fault.line)

-- so many lines from `from` on, each a row of so many values
pub record Rows (s : List ℕ) (from columns rows : ℕ) : Type 0 where
  pub inside : from ≤ length s
  pub number : length (lines_at s from) ≡ rows
  pub each : all (has_values columns) (lines_at s from) ≡ true

-- the refusal of a text on its layout: 12 where its rows don't fit or its frame is out of range, then 13 for a value
-- that isn't sound
abbrev pub shape_refusal : Frame → Bool → Bool → ℕ
shape_refusal f fits sound = refuse 12 (fits && sided f && placed f) (refuse 13 sound 0)

-- ---- writing

-- the bytes of levels, each with the byte that follows it
unfoldable pub sizes_of : List ℕ → ℕ
sizes_of [] = 0
sizes_of (v ∷ vs) = length (show_thousandths v) + 1 + sizes_of vs

-- no level is too high, and no header number has more than seven digits
abbrev pub Quiet : List ℕ → Type 0
Quiet levels = (i : ℕ) → slice_index levels i ≤ max_network_level

pub record Near (f : Frame) : Type 0 where
  pub columns_most : f.columns ≤ max_origin
  pub rows_most : f.rows ≤ max_origin
  pub spacing_most : f.spacing ≤ max_origin
  pub west_most : f.west ≤ max_origin
  pub south_most : f.south ≤ max_origin

-- a line with its end
abbrev pub ended : List ℕ → List ℕ
ended line = line ++ crlf

-- the header lines in two parts
abbrev pub side_lines : Frame → List (List ℕ)
side_lines f = key_line ncols f.columns ∷ key_line nrows f.rows ∷ []

abbrev pub place_lines : Frame → List (List ℕ)
place_lines f = key_line xllcenter f.west ∷ key_line yllcenter f.south ∷ key_line cellsize f.spacing ∷ []
