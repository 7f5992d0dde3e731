-- The map point of a crossing: RULES, "Network and contours". Assumes nothing.
use Rattle.std.specs.Prelude.{ℕ, ◌+◌, ◌*◌, List, Float, Option, Some, None, Result, Ok, Err}
use Rattle.std.specs.Float.{binary64}
use Rattle.std.specs.Float.Ieee.{add, mul}
use Rattle.refusal.specs.declared.Refusal.{Refusal}
use Rattle.refusal.specs.Refusal.{Answers}
use Rattle.network.specs.declared.Edge.{Edge}
use Rattle.network.specs.declared.Edge.TheVariants.{Horizontal, Vertical}
use Rattle.network.specs.declared.Frame.{Frame}
use Rattle.network.specs.Edges.{edge_at}
use Rattle.network.specs.Refusals.{contour_refusal}
use Rattle.mapping.specs.declared.Crossing.{Crossing}
use Rattle.mapping.specs.declared.Crossing.TheVariants.{Nowhere, AlongHorizontal, AlongVertical}
use Rattle.mapping.specs.declared.Located.{Located}
use Rattle.mapping.specs.declared.Located.TheVariants.{OnHorizontal, OnVertical}
use Rattle.mapping.specs.declared.Shown.{Shown}
use Rattle.mapping.specs.Fractions.{whole, crossing_of}

-- the coordinate that moves along the edge: ((index + fraction) * spacing) + origin in that order, each step rounded
-- once; and the other, exact
abbrev pub moving : (index : ℕ) (f : Float) (spacing origin : ℕ) → Float
moving index f spacing origin =
    add binary64 (mul binary64 (add binary64 (whole index) f) (whole spacing)) (whole origin)

abbrev pub still : ℕ → ℕ → ℕ → Float
still index spacing origin = whole (index * spacing + origin)

-- the row and the column of an edge's west or south end
abbrev pub row_of : Edge → ℕ
row_of (Horizontal row col) = row
row_of (Vertical row col) = row

abbrev pub col_of : Edge → ℕ
col_of (Horizontal row col) = col
col_of (Vertical row col) = col

-- the map point of a crossing on the edge whose west or south end is at that row and column
abbrev pub locate : (c : Crossing) (row col : ℕ) (f : Frame) → Option Located
locate Nowhere row col f = None
locate (AlongHorizontal t) row col f =
    Some (OnHorizontal (record { x = moving col t f.spacing f.west; y = still row f.spacing f.south }))
locate (AlongVertical t) row col f =
    Some (OnVertical (record { x = still col f.spacing f.west; y = moving row t f.spacing f.south }))

-- the map point of the edge of a number: none where its crossing is
abbrev pub located_of : (levels : List ℕ) (f : Frame) (v n : ℕ) → Option Located
located_of levels f v n =
    locate (crossing_of levels f v n) (row_of (edge_at f.columns f.rows n))
    (col_of (edge_at f.columns f.rows n)) f

-- a map point's number and coordinates: 0 none, at 0.0 and 0.0; 1 on a horizontal edge; 2 on a vertical edge
abbrev pub shown_of : Option Located → Shown
shown_of None = record { which = 0; x = whole 0; y = whole 0 }
shown_of (Some (OnHorizontal p)) = record { which = 1; x = p.x; y = p.y }
shown_of (Some (OnVertical p)) = record { which = 2; x = p.x; y = p.y }

-- an answer's map point by number and coordinates: those of none where the call refuses
abbrev pub mapped_shown : Result (Option Located) Refusal → Shown
mapped_shown (Ok l) = shown_of l
mapped_shown (Err why) = shown_of None

-- the call: 12, 13, 15, and then the map point
abbrev pub MapPointAsked : (levels : List ℕ) (f : Frame) (v n : ℕ) → Result (Option Located) Refusal → Type 0
MapPointAsked levels f v n = Answers (contour_refusal levels f v) (located_of levels f v n)
