-- The printed place of a crossing, in whole millimetres: RULES, "Network and contours". Assumes nothing.
use Rattle.std.specs.Prelude.{ℕ, ◌+◌, ◌*◌, ◌/◌, List}
use Rattle.network.specs.declared.Edge.{Edge}
use Rattle.network.specs.declared.Edge.TheVariants.{Horizontal, Vertical}
use Rattle.network.specs.declared.Frame.{Frame}
use Rattle.network.specs.Edges.{level_at}
use Rattle.network.specs.Crossed.{distance}
use Rattle.wkt.specs.declared.Spot.{Spot}

-- a / b rounded to nearest, halves up
abbrev pub nearest : ℕ → ℕ → ℕ
nearest a b = (2 * a + b) / (2 * b)

-- the spacing in mm times num/den
abbrev pub offset_of : ℕ → ℕ → ℕ → ℕ
offset_of spacing num den = nearest (1000 * spacing * num) den

-- from the west or south end, of level a, to where v lies towards the other end, of level b
abbrev pub slide_of : (v a b spacing : ℕ) → ℕ
slide_of v a b spacing = offset_of spacing (distance v a) (distance b a)

-- a point's coordinate in mm
abbrev pub stand_of : ℕ → ℕ → ℕ → ℕ
stand_of index spacing origin = 1000 * (index * spacing + origin)

abbrev pub spot_of : (levels : List ℕ) (f : Frame) (v : ℕ) (e : Edge) → Spot
spot_of levels f v (Horizontal row col) =
    record {
      x = stand_of col f.spacing f.west
          + slide_of v (level_at levels f.columns row col) (level_at levels f.columns row (col + 1)) f.spacing;
      y = stand_of row f.spacing f.south;
    }
spot_of levels f v (Vertical row col) =
    record {
      x = stand_of col f.spacing f.west;
      y = stand_of row f.spacing f.south
          + slide_of v (level_at levels f.columns row col) (level_at levels f.columns (row + 1) col) f.spacing;
    }
