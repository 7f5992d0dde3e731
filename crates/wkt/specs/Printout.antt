-- Printed contours as the rules lay them out, "Network and contours" and "Files and the report program".
-- Assumes nothing.
use Rattle.std.specs.Prelude.{◌≡◌, ℕ, ◌+◌, ◌-◌, ◌*◌, ◌<◌, ◌≤◌, cond, List, [], ◌∷◌, ◌++◌, map, slice_index}
use Rattle.text.specs.Spelled.{bytes}
use Rattle.text.specs.Number.{whole_of}
use Rattle.std.specs.Prelude.{Some}
use Rattle.network.specs.declared.Frame.{Frame}
use Rattle.network.specs.Numbering.{point_level, Parts, OneIn}
use Rattle.contour_rules.specs.Picture.{picture}
use Rattle.contour_rules.specs.Contours.{Contour, contours_of}
use Rattle.wkt.specs.Text.{place_text}
use Rattle.wkt.specs.Calls.{network_text}

-- ---- a printed place

-- spacing in mm times num/den, rounded to nearest, halves up: offset − 1/2 ≤ 1000·spacing·num/den < offset + 1/2
pub record Rounds (spacing num den offset : ℕ) : Type 0 where
  pub down_to : 2 * den * offset ≤ 2 * (1000 * spacing * num) + den
  pub up_to : 2 * (1000 * spacing * num) + den < 2 * den * offset + 2 * den

-- where v lies on an edge from a (west or south end) to b, in mm from that end
pub record Offset (v a b spacing offset : ℕ) : Type 0 where
  pub num : ℕ
  pub den : ℕ
  pub above_zero : 0 < den
  pub parts : Parts v a b num den
  pub rounds : Rounds spacing num den offset

-- so many mm as metres with three decimals: a whole number on its layout, a point and three digits
pub record Metres (mm : ℕ) (text : List ℕ) : Type 0 where
  pub whole : ℕ
  pub digits : List ℕ
  pub first : ℕ
  pub second : ℕ
  pub third : ℕ
  pub small : (first < 10) × ((second < 10) × (third < 10))
  pub worth : mm ≡ 1000 * whole + 100 * first + 10 * second + third
  pub spells : whole_of digits ≡ Some whole
  pub bytes : text ≡ digits ++ (46 ∷ (48 + first) ∷ (48 + second) ∷ (48 + third) ∷ [])

-- x and y parted by a space
pub record Pair (x y : ℕ) (text : List ℕ) : Type 0 where
  pub x_text : List ℕ
  pub y_text : List ℕ
  pub x_metres : Metres x x_text
  pub y_metres : Metres y y_text
  pub bytes : text ≡ x_text ++ (32 ∷ y_text)

module _ (levels : List ℕ) (f : Frame) (v : ℕ) where
  abbrev pub level : ℕ → ℕ → ℕ
  level row col = point_level levels f.columns row col

  -- on the horizontal edge at a row and column, x lies between two points and y is that of the row
  pub record RowPlace (row col : ℕ) (text : List ℕ) : Type 0 where
    pub offset : ℕ
    pub place : Offset v (level row col) (level row (col + 1)) f.spacing offset
    pub pair : Pair (1000 * (f.west + col * f.spacing) + offset) (1000 * (f.south + row * f.spacing)) text

  -- on the vertical edge x is that of the column
  pub record ColumnPlace (row col : ℕ) (text : List ℕ) : Type 0 where
    pub offset : ℕ
    pub place : Offset v (level row col) (level (row + 1) col) f.spacing offset
    pub pair : Pair (1000 * (f.west + col * f.spacing)) (1000 * (f.south + row * f.spacing) + offset) text

  -- the printed place of each crossed edge, by its number
  pub record PlacesPrinted : Type 0 where
    pub on_row : (row col : ℕ) → row < f.rows → col + 1 < f.columns
        → OneIn levels f.columns v row col row (col + 1)
        → RowPlace row col (place_text levels f v (row * (f.columns - 1) + col))
    pub on_column : (row col : ℕ) → row + 1 < f.rows → col < f.columns
        → OneIn levels f.columns v row col (row + 1) col
        → ColumnPlace row col (place_text levels f v (f.rows * (f.columns - 1) + row * f.columns + col))

  -- ---- the text around the places

  -- a comma and a space part points, and lines
  abbrev pub parted : List (List ℕ) → List ℕ
  parted [] = []
  parted (t ∷ []) = t
  parted (t ∷ u ∷ ts) = t ++ (bytes ", " ++ parted (u ∷ ts))

  -- a line in parentheses; a closed line repeats its first point
  abbrev pub line_text : Contour → List ℕ
  line_text c =
      bytes "(" ++ parted (map (place_text levels f v) (c.edges ++ cond c.closes (slice_index c.edges 0 ∷ []) []))
      ++ bytes ")"

  abbrev pub found : List Contour
  found = contours_of (picture levels f.columns f.rows v)

  pub record TextPrinted : Type 0 where
    -- none prints `MULTILINESTRING EMPTY`
    pub none : found ≡ [] → network_text levels f v ≡ bytes "MULTILINESTRING EMPTY"
    -- contours as `MULTILINESTRING (..)`, in their order
    pub some : (c : Contour) (cs : List Contour) → found ≡ c ∷ cs
        → network_text levels f v ≡ bytes "MULTILINESTRING (" ++ parted (map line_text (c ∷ cs)) ++ bytes ")"
