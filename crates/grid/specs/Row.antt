-- A row of a network file: values parted by one space, each a level in thousandths, with two or three decimals, or the
-- no-data value as the file spells it.
-- RULES, "Files and the report program". Assumes nothing.
use Rattle.std.specs.Prelude.{ℕ, Bool, true, cond, not, ◌&&◌, ◌||◌, List, [], ◌∷◌, ◌++◌, map, length, ◌==◌}
use Rattle.text.specs.Number.{decimal_of, thousandths_of, is_got, value_of}
use Rattle.text.specs.Line.{onto}
use Rattle.text.specs.Same.{same_text}
use Rattle.text.specs.Spelled.{byte}

-- each element passes the test
unfoldable pub all : {A : Type 0} → (A → Bool) → List A → Bool
all p [] = true
all p (x ∷ xs) = p x && all p xs

-- the texts that the spaces of a line part
unfoldable pub values_of : List ℕ → List (List ℕ)
values_of [] = [] ∷ []
values_of (c ∷ s) = cond (c == (byte " ")) ([] ∷ values_of s) (onto c (values_of s))

-- a value is no data where it is spelled so; otherwise it is a level
abbrev pub given : List ℕ → List ℕ → Bool
given nodata t = not (same_text t nodata)

abbrev pub is_value : List ℕ → List ℕ → Bool
is_value nodata t = is_got (thousandths_of t) || same_text t nodata

-- a line that is a row of values
abbrev pub is_row : List ℕ → List ℕ → Bool
is_row nodata line = all (is_value nodata) (values_of line)

-- its number of values
abbrev pub has_values : ℕ → List ℕ → Bool
has_values columns line = length (values_of line) == columns

-- no value of it is no data
abbrev pub row_given : List ℕ → List ℕ → Bool
row_given nodata line = all (given nodata) (values_of line)

-- its levels, west to east; no data has none and counts as 0 until it is refused
abbrev pub level_in : List ℕ → ℕ
level_in t = value_of (thousandths_of t)

unfoldable pub row_levels : List ℕ → List ℕ
row_levels line = map level_in (values_of line)

-- the levels of rows that run from north to south, from the south row on
unfoldable pub levels_of : List (List ℕ) → List ℕ
levels_of [] = []
levels_of (row ∷ rows) = levels_of rows ++ row_levels row

-- each value of a row has three decimals, as a network is written
abbrev pub has_three : List ℕ → Bool
has_three t = is_got (decimal_of 3 t)

abbrev pub row_three : List ℕ → Bool
row_three line = all has_three (values_of line)
