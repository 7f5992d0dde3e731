-- How a line runs through a square: RULES, "Network and contours". A square has the row and column of its south-west
-- corner.
-- Assumes nothing.
use Rattle.std.specs.Prelude.{Bool, true, false, cond, ℕ, ◌+◌, ◌<◌}
use Rattle.network.specs.declared.Edge.{Edge}
use Rattle.network.specs.declared.Edge.TheVariants.{Horizontal, Vertical}
use Rattle.contour_rules.specs.declared.Side.{Side}
use Rattle.contour_rules.specs.declared.Side.TheVariants.{South, East, North, West}
use Rattle.contour_rules.specs.Picture.{Picture}

-- the square is in the network
abbrev pub WithinSquare : (nx ny row col : ℕ) → Type 0
WithinSquare nx ny row col = (row + 1 < ny) × (col + 1 < nx)

-- its next side counterclockwise
abbrev pub turn : Side → Side
turn South = East
turn East = North
turn North = West
turn West = South

-- its edge at a side
abbrev pub side_edge : ℕ → ℕ → Side → Edge
side_edge row col South = Horizontal row col
side_edge row col East = Vertical row (col + 1)
side_edge row col North = Horizontal (row + 1) col
side_edge row col West = Vertical row col

-- whether the corner is in that lies to the left of who enters by a side; to the right lies the one of the next side
abbrev pub corner : (g : Picture) (row col : ℕ) (s : Side) → Bool
corner g row col South = g.inside row col
corner g row col East = g.inside row (col + 1)
corner g row col North = g.inside (row + 1) (col + 1)
corner g row col West = g.inside (row + 1) col

-- The side by which a line leaves that entered by `s`, with an in corner on its left and an out corner on its right.
-- The two far corners, right and left, decide; right in and left out is the saddle, with four crossed edges.
abbrev pub exit_side : (right left cut : Bool) (s : Side) → Side
exit_side true true cut s = turn s
exit_side false true cut s = turn (turn s)
exit_side false false cut s = turn (turn (turn s))
exit_side true false cut s = cond cut (turn s) (turn (turn (turn s)))

abbrev pub exit_of : (g : Picture) (row col : ℕ) (s : Side) → Side
exit_of g row col s =
    exit_side (corner g row col (turn (turn s))) (corner g row col (turn (turn (turn s)))) (g.cut row col) s
