-- Which points are in, and which edges a contour crosses: RULES, "Network and contours". Assumes nothing.
use Rattle.std.specs.Prelude.{ℕ, ◌+◌, ◌-◌, Bool, true, false, not, List, nat_le}
use Rattle.network.specs.declared.Edge.{Edge}
use Rattle.network.specs.declared.Edge.TheVariants.{Horizontal, Vertical}
use Rattle.network.specs.Edges.{level_at, edge_at}

-- a point is in if its level is at least v
abbrev pub inside_of : (levels : List ℕ) (nx v row col : ℕ) → Bool
inside_of levels nx v row col = nat_le v (level_at levels nx row col)

-- one is so and the other is not
abbrev pub unlike : Bool → Bool → Bool
unlike true b = not b
unlike false b = b

-- an edge is crossed if one end is in and the other is out, where `inside` says which points are in
abbrev pub crossed_by : (ℕ → ℕ → Bool) → Edge → Bool
crossed_by inside (Horizontal row col) = unlike (inside row col) (inside row (col + 1))
crossed_by inside (Vertical row col) = unlike (inside row col) (inside (row + 1) col)

-- whether the contour of level v crosses an edge, and the edge of a number
abbrev pub crossed_edge : (levels : List ℕ) (nx v : ℕ) (e : Edge) → Bool
crossed_edge levels nx v e = crossed_by (inside_of levels nx v) e

abbrev pub crossed_at : (levels : List ℕ) (nx ny v n : ℕ) → Bool
crossed_at levels nx ny v n = crossed_edge levels nx v (edge_at nx ny n)

-- |a - b|: on an edge from a level a (west or south end) to a level b, num is the distance of v and a,
-- and den that of b and a
abbrev pub distance : ℕ → ℕ → ℕ
distance a b = (a - b) + (b - a)
