-- A network file by its lines: five keys with whole numbers, where it is named the no-data value, then the rows.
-- RULES, "Files and the report program"; a missing header line counts as an empty one. Assumes nothing.
use Rattle.std.specs.Prelude.{ℕ, ◌+◌, Bool, cond, ◌&&◌, ◌||◌, List, [], ◌∷◌, ◌++◌, map, length, take, drop, ◌==◌}
use Rattle.std.specs.Prelude.{slice_index, slice_index_or}
use Rattle.text.specs.Number.{whole_of, thousandths_of, is_got, value_of}
use Rattle.text.specs.Same.{same_text}
use Rattle.text.specs.Spelled.{bytes, byte}
use Rattle.std.specs.Prelude.{Option, None}
use Rattle.network.specs.declared.Frame.{Frame}
use Rattle.grid.specs.Row.{all, is_row, has_values}

-- the keys, each with its space
abbrev pub ncols : List ℕ
ncols = bytes "ncols "

abbrev pub nrows : List ℕ
nrows = bytes "nrows "

abbrev pub xllcenter : List ℕ
xllcenter = bytes "xllcenter "

abbrev pub yllcenter : List ℕ
yllcenter = bytes "yllcenter "

abbrev pub cellsize : List ℕ
cellsize = bytes "cellsize "

abbrev pub no_data_word : List ℕ
no_data_word = bytes "NODATA_value"

-- what is no data where the file does not name it
abbrev pub unnamed : List ℕ
unnamed = bytes "-9999"

-- the line begins with the word
unfoldable pub begins : List ℕ → List ℕ → Bool
begins word line = same_text (take (length word) line) word

-- the whole number after a key and its space
unfoldable pub number_after : List ℕ → List ℕ → Option ℕ
number_after key line = cond (begins key line) (whole_of (drop (length key) line)) None

abbrev pub number_at : List ℕ → ℕ → List (List ℕ) → Option ℕ
number_at key i lines = number_after key (slice_index_or lines i [])

-- which of the first five lines are on their layout, and the frame that they give
abbrev pub head_on : List (List ℕ) → List Bool
head_on lines =
    is_got (number_at ncols 0 lines)
    ∷ is_got (number_at nrows 1 lines)
    ∷ is_got (number_at xllcenter 2 lines)
    ∷ is_got (number_at yllcenter 3 lines)
    ∷ is_got (number_at cellsize 4 lines)
    ∷ []

unfoldable pub frame_of : List (List ℕ) → Frame
frame_of lines = record {
  columns = value_of (number_at ncols 0 lines);
  rows = value_of (number_at nrows 1 lines);
  spacing = value_of (number_at cellsize 4 lines);
  west = value_of (number_at xllcenter 2 lines);
  south = value_of (number_at yllcenter 3 lines);
}

-- the sixth line names the no-data value exactly if it begins with that word
abbrev pub names : List ℕ → Bool
names line = begins no_data_word line

abbrev pub sixth : List (List ℕ) → List ℕ
sixth lines = slice_index_or lines 5 []

-- the value after the word and a space: an optional minus, and then a whole number or a level
abbrev pub spelled_in : List ℕ → List ℕ
spelled_in line = drop (length no_data_word + 1) line

abbrev pub unsigned : List ℕ → List ℕ
unsigned t = cond (slice_index t 0 == (byte "-")) (drop 1 t) t

abbrev pub is_number : List ℕ → Bool
is_number t = is_got (whole_of t) || is_got (thousandths_of t)

abbrev pub is_spelling : List ℕ → Bool
is_spelling t = is_number (unsigned t)

unfoldable pub names_well : List ℕ → Bool
names_well line = slice_index line (length no_data_word) == (byte " ") && is_spelling (spelled_in line)

-- no data as the file spells it, whether its naming is on the layout, and the rows
unfoldable pub no_data_of : List (List ℕ) → List ℕ
no_data_of lines = cond (names (sixth lines)) (spelled_in (sixth lines)) unnamed

abbrev pub named_on : List (List ℕ) → List Bool
named_on lines = cond (names (sixth lines)) (names_well (sixth lines) ∷ []) []

unfoldable pub rows_of : List (List ℕ) → List (List ℕ)
rows_of lines = cond (names (sixth lines)) (drop 6 lines) (drop 5 lines)

-- the place of the first test that fails, counted from n, or 0 where none does
unfoldable pub first_off : ℕ → List Bool → ℕ
first_off n [] = 0
first_off n (on ∷ rest) = cond on (first_off (n + 1) rest) n

-- the first line off the layout, counted from 1, or 0 where there is none
unfoldable pub fault_line : List (List ℕ) → ℕ
fault_line lines = first_off 1 (head_on lines ++ (named_on lines ++ map (is_row (no_data_of lines)) (rows_of lines)))

-- as many rows as the frame has, and as many values in each
unfoldable pub rows_fit : Frame → List (List ℕ) → Bool
rows_fit f rows = length rows == f.rows && all (has_values f.columns) rows
