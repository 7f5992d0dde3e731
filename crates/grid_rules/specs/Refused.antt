-- Which network texts are refused, by which number and at which line: RULES, "Files and the report program" and
-- "Refusal numbers": 17 where a line is off its layout, then 12, then 13, then 14. Assumes nothing.
use Rattle.std.specs.Prelude.{ℕ, suc, ◌*◌, ◌≤◌, ◌<◌, ◌≡◌, Bool, cond, List, [], ◌∷◌, ◌++◌, length, get_or}
use Rattle.text.specs.Line.{lines_of}
use Rattle.text.specs.Field.{count_of}
use Rattle.text.specs.Number.{show_whole, InThousandths}
use Rattle.text.specs.Spelled.{bytes}
use Rattle.network.specs.declared.Frame.{Frame}
use Rattle.grid_rules.specs.Laid.{line, value_at, Headed, Sized}

-- Lines on their layout

-- the keys in their order, each with its space
abbrev pub keys : List (List ℕ)
keys = bytes "ncols " ∷ bytes "nrows " ∷ bytes "xllcenter " ∷ bytes "yllcenter " ∷ bytes "cellsize " ∷ []

-- a key and a whole number of one to seven digits
pub record Keyed (key l : List ℕ) : Type 0 where
  pub number : ℕ
  pub most : number < 10000000
  pub is : l ≡ key ++ show_whole number

-- a level in thousandths: up to three digits, a point and three digits, or two
pub record Level (t : List ℕ) : Type 0 where
  pub number : ℕ
  pub most : number < 1000000
  pub is : InThousandths t number

-- a number of the line that names no data: whole, or with two decimals or three
pub data Digits (t : List ℕ) : Type 0 where
  no_point : (n : ℕ) → n < 10000000 → t ≡ show_whole n → Digits t
  with_point_rule : Level t → Digits t

-- the no-data value, which alone may be negative or a level
pub record Naming (l : List ℕ) : Type 0 where
  pub minus : Bool
  pub number : List ℕ
  pub digits : Digits number
  pub is : l ≡ bytes "NODATA_value " ++ (cond minus (bytes "-") [] ++ number)

-- a row: each value is a level or spelled as no data is
abbrev pub RowOn : (nodata l : List ℕ) → Type 0
RowOn nodata l = (c : ℕ) → c ≤ count_of 32 l → (value_at l c ≡ nodata → ⊥) → Level (value_at l c)

-- line k of a text whose rows start in line `first`; a missing header line counts as an empty one
pub record LineOn (text : List ℕ) (first : ℕ) (nodata : List ℕ) (k : ℕ) : Type 0 where
  pub head : k < 5 → Keyed (get_or keys k []) (line text k)
  pub naming : k ≡ 5 → first ≡ 6 → Naming (line text k)
  pub row : first ≤ k → k < length (lines_of text) → RowOn nodata (line text k)

-- n is the first line off its layout, counted from 1, or 0 where there is none
pub record Fault (text : List ℕ) (n first : ℕ) (nodata : List ℕ) : Type 0 where
  pub none : n ≡ 0 → (k : ℕ) → LineOn text first nodata k
  pub here : (k : ℕ) → n ≡ suc k → LineOn text first nodata k → ⊥
  pub before : (k : ℕ) → n ≡ suc k → (j : ℕ) → j < k → LineOn text first nodata j

-- Networks in range

-- 2 to 256 points a side, spacing 1 to 500 m, a south-west point 0 to 900,000 m each way
pub record InRange (f : Frame) : Type 0 where
  pub columns : (2 ≤ f.columns) × (f.columns ≤ 256)
  pub rows : (2 ≤ f.rows) × (f.rows ≤ 256)
  pub spacing : (1 ≤ f.spacing) × (f.spacing ≤ 500)
  pub west : f.west ≤ 900000
  pub south : f.south ≤ 900000

-- a value that is not spelled as no data is, and a level of 0.000 to 150.000
pub record Given (nodata t : List ℕ) : Type 0 where
  pub other : t ≡ nodata → ⊥
  pub number : ℕ
  pub most : number ≤ 150000
  pub is : InThousandths t number

abbrev pub AllGiven : (text : List ℕ) (first : ℕ) (nodata : List ℕ) → Type 0
AllGiven text first nodata =
    (k c : ℕ) → first ≤ k → k < length (lines_of text) → c ≤ count_of 32 (line text k)
    → Given nodata (value_at (line text k) c)

-- n is the refusal of a text whose header says the frame f, or 0; room is lent for so many header numbers and levels
pub record Refused (text : List ℕ) (headers room n : ℕ) (f : Frame) (first : ℕ) (nodata : List ℕ) : Type 0 where
  -- 17 exactly where a line is off its layout
  pub off : n ≡ 17 → ((k : ℕ) → LineOn text first nodata k) → ⊥
  pub on : (n ≡ 17 → ⊥) → (k : ℕ) → LineOn text first nodata k
  pub head : (n ≡ 17 → ⊥) → Headed text f
  -- then 12 exactly where rows or values are too few or too many, or a header number is out of range
  pub misfit : n ≡ 12 → Sized text f first → InRange f → ⊥
  pub fits : (n ≡ 17 → ⊥) → (n ≡ 12 → ⊥) → Sized text f first × InRange f
  -- then 13 exactly where a value is no data or a level too high
  pub unsound : n ≡ 13 → AllGiven text first nodata → ⊥
  pub sound : (n ≡ 17 → ⊥) → (n ≡ 12 → ⊥) → (n ≡ 13 → ⊥) → AllGiven text first nodata
  -- then 14 exactly where the room is too small
  pub narrow : n ≡ 14 → 5 ≤ headers → f.rows * f.columns ≤ room → ⊥
  pub roomy : n ≡ 0 → (5 ≤ headers) × (f.rows * f.columns ≤ room)
  pub known : (n ≡ 17 → ⊥) → (n ≡ 12 → ⊥) → (n ≡ 13 → ⊥) → (n ≡ 14 → ⊥) → n ≡ 0

-- A value spelled as no data is: 13, where every line is on its layout, the rows fit and the frame is in range
abbrev pub NoDataRefused : (text : List ℕ) (n : ℕ) (f : Frame) (first : ℕ) (nodata : List ℕ) → Type 0
NoDataRefused text n f first nodata =
    ((k : ℕ) → LineOn text first nodata k) → Sized text f first → InRange f
    → (k c : ℕ) → first ≤ k → k < length (lines_of text) → c ≤ count_of 32 (line text k)
    → value_at (line text k) c ≡ nodata → n ≡ 13
