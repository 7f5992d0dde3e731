-- Which edges a contour crosses, where a crossing heads, and the edge that it leads to: RULES, "Network and contours".
-- Assumes nothing.
use Rattle.std.specs.Prelude.{Option, Some, None}
use Rattle.std.specs.Prelude.{Bool, true, false, not, ◌&&◌, ◌||◌, cond, ℕ, ◌+◌, ◌-◌, ltb, eqb}
use Rattle.network.specs.declared.Edge.{Edge}
use Rattle.network.specs.declared.Edge.TheVariants.{Horizontal, Vertical}
use Rattle.network.specs.Edges.{edges, number_of, edge_at}
use Rattle.network.specs.Crossed.{crossed_by}
use Rattle.contour_rules.specs.declared.Side.{Side}
use Rattle.contour_rules.specs.declared.Side.TheVariants.{South, East, North, West}
use Rattle.contour_rules.specs.declared.Square.{Square}
use Rattle.contour_rules.specs.Picture.{Picture}
use Rattle.contour_rules.specs.Squares.{side_edge, exit_of}

-- one end is in and the other is out
abbrev pub crossed : Picture → Edge → Bool
crossed g e = crossed_by g.inside e

-- what a crossing heads into: a square by its row and column and the side by which it is entered, or none outside the
-- network
abbrev pub Ahead : Type 0
Ahead = Option Square

abbrev pub into : ℕ → ℕ → Side → Ahead
into row col s = Some (record { row = row; col = col; side = s })

-- what lies north, south, west and east of an edge: the square with the side by which it is entered
abbrev pub north_of : ℕ → ℕ → ℕ → Ahead
north_of ny row col = cond (ltb (row + 1) ny) (into row col South) None

abbrev pub south_of : ℕ → ℕ → Ahead
south_of row col = cond (eqb row 0) None (into (row - 1) col North)

abbrev pub west_of : ℕ → ℕ → Ahead
west_of row col = cond (eqb col 0) None (into row (col - 1) East)

abbrev pub east_of : ℕ → ℕ → ℕ → Ahead
east_of nx row col = cond (ltb (col + 1) nx) (into row col West) None

-- what lies beyond a square's side
abbrev pub beyond : (nx ny row col : ℕ) (s : Side) → Ahead
beyond nx ny row col South = south_of row col
beyond nx ny row col East = east_of nx row (col + 1)
beyond nx ny row col North = north_of ny (row + 1) col
beyond nx ny row col West = west_of row col

-- whether the west or south end is in
abbrev pub first_in : Picture → Edge → Bool
first_in g (Horizontal row col) = g.inside row col
first_in g (Vertical row col) = g.inside row col

-- across an edge with that end on the left, or on the right: from a west end north or south, from a south end west or
-- east
abbrev pub across_of : (nx ny : ℕ) (left : Bool) (e : Edge) → Ahead
across_of nx ny left (Horizontal row col) = cond left (north_of ny row col) (south_of row col)
across_of nx ny left (Vertical row col) = cond left (west_of row col) (east_of nx row col)

-- a crossing heads across its edge with the in end on its left, and comes from the other way
abbrev pub ahead_of : Picture → Edge → Ahead
ahead_of g e = across_of g.nx g.ny (first_in g e) e

abbrev pub behind_of : Picture → Edge → Ahead
behind_of g e = across_of g.nx g.ny (not (first_in g e)) e

-- the edge that a crossed edge leads to, or none where its crossing leaves the network
pub data Next : Type 0 where
  To : Edge → Next
  Out : Next

abbrev pub through : Picture → Ahead → Next
through g (Some a) = To (side_edge a.row a.col (exit_of g a.row a.col a.side))
through g None = Out

abbrev pub next_of : Picture → Edge → Next
next_of g e = through g (ahead_of g e)

abbrev pub is_outside : Ahead → Bool
is_outside None = true
is_outside (Some a) = false

-- an edge of the border: a horizontal one of the south or north row, a vertical one of the west or east column
abbrev pub on_border : ℕ → ℕ → Edge → Bool
on_border nx ny (Horizontal row col) = eqb row 0 || eqb (row + 1) ny
on_border nx ny (Vertical row col) = eqb col 0 || eqb (col + 1) nx

-- ---- the same by an edge's number

abbrev pub edges_in : Picture → ℕ
edges_in g = edges g.nx g.ny

abbrev pub edge_of : Picture → ℕ → Edge
edge_of g n = edge_at g.nx g.ny n

abbrev pub crossed_at : Picture → ℕ → Bool
crossed_at g n = crossed g (edge_of g n)

-- a contour enters the network at a crossed edge that it comes to from outside
abbrev pub enters_at : Picture → ℕ → Bool
enters_at g n = crossed_at g n && is_outside (behind_of g (edge_of g n))

-- the number of the edge that a crossing leads to; where it leaves the network, the number of edges, which is no edge's
abbrev pub next_number : ℕ → ℕ → Next → ℕ
next_number nx ny (To e) = number_of nx ny e
next_number nx ny Out = edges nx ny

abbrev pub next_at : Picture → ℕ → ℕ
next_at g n = next_number g.nx g.ny (next_of g (edge_of g n))
