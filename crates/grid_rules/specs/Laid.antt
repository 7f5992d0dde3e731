-- Where a network file says what, line by line and place by place: RULES, "Files and the report program".
-- Assumes nothing.
use Rattle.std.specs.Prelude.{ℕ, suc, ◌+◌, ◌-◌, ◌*◌, ◌<◌, ◌≡◌, List, [], ◌++◌, length, get_or, take, drop}
use Rattle.text.specs.Line.{lines_of}
use Rattle.text.specs.Field.{count_of, field_of}
use Rattle.text.specs.Number.{show_whole, show_thousandths, InThousandths}
use Rattle.text.specs.Spelled.{bytes}
use Rattle.network.specs.declared.Frame.{Frame}

-- line k of a text, counted from 0
abbrev pub line : List ℕ → ℕ → List ℕ
line text k = get_or (lines_of text) k []

-- the value at a place of a line, west to east from 0: one space parts values
abbrev pub value_at : List ℕ → ℕ → List ℕ
value_at row place = field_of 32 place row

-- the keys in this order and spelling, one space, a whole number
pub record Headed (text : List ℕ) (f : Frame) : Type 0 where
  pub columns : line text 0 ≡ bytes "ncols " ++ show_whole f.columns
  pub rows : line text 1 ≡ bytes "nrows " ++ show_whole f.rows
  pub west : line text 2 ≡ bytes "xllcenter " ++ show_whole f.west
  pub south : line text 3 ≡ bytes "yllcenter " ++ show_whole f.south
  pub spacing : line text 4 ≡ bytes "cellsize " ++ show_whole f.spacing

-- as many rows as the header says and no line more, and as many values in each
pub record Sized (text : List ℕ) (f : Frame) (first : ℕ) : Type 0 where
  pub height : length (lines_of text) ≡ first + f.rows
  pub width : (k : ℕ) → k < f.rows → count_of 32 (line text (first + k)) + 1 ≡ f.columns

-- row r counted from the south: the rows run from north to south, the first of them in line `first`
abbrev pub row_from_south : (text : List ℕ) (first : ℕ) (f : Frame) (r : ℕ) → List ℕ
row_from_south text first f r = line text (first + (f.rows - suc r))

-- a text that says this network, its rows from line `first` on: each level at its place, as `spells` says
pub record Laid (spells : List ℕ → ℕ → Type 0) (text levels : List ℕ) (f : Frame) (first : ℕ) : Type 0 where
  pub head : Headed text f
  pub size : Sized text f first
  pub number : length levels ≡ f.rows * f.columns
  pub level : (r c : ℕ) → r < f.rows → c < f.columns
      → spells (value_at (row_from_south text first f r) c) (get_or levels (r * f.columns + c) 0)

-- a level in thousandths as it is written: with three decimals
abbrev pub Three : List ℕ → ℕ → Type 0
Three t n = t ≡ show_thousandths n

-- the sixth line names the no-data value: it begins with that word
abbrev pub Named : List ℕ → Type 0
Named text = take 12 (line text 5) ≡ bytes "NODATA_value"

-- what holds of the line where the rows start and of the spelling of no data: as the sixth line has it, or `-9999`
pub record Behind (text : List ℕ) (holds : ℕ → List ℕ → Type 0) : Type 0 where
  pub named : Named text → holds 6 (drop 13 (line text 5))
  pub unnamed : (Named text → ⊥) → holds 5 (bytes "-9999")

-- a text that is read says this network, with three decimals or with two
abbrev pub Says : (text levels : List ℕ) → Frame → Type 0
Says text levels f = Behind text (λ first nodata. Laid InThousandths text levels f first)

-- the network as a call that reads leaves it: five numbers, and the levels from the south row, west to east
abbrev pub frame_in : List ℕ → Frame
frame_in header = record {
  columns = get_or header 0 0;
  rows = get_or header 1 0;
  spacing = get_or header 2 0;
  west = get_or header 3 0;
  south = get_or header 4 0;
}

abbrev pub levels_in : (header levels : List ℕ) → List ℕ
levels_in header levels = take (get_or header 1 0 * get_or header 0 0) levels

-- a text that is written says its network with three decimals, without a NODATA_value line, and has its last CRLF
pub record Written (text levels : List ℕ) (f : Frame) : Type 0 where
  pub laid : Laid Three text levels f 5
  pub before : List ℕ
  pub ended : text ≡ before ++ bytes "\r\n"
