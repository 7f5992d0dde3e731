-- The points and edges of a network, numbered as RULES, "Network and contours", says. Assumes nothing.
use Rattle.std.specs.Prelude.{◌≡◌, ℕ, ◌+◌, ◌-◌, ◌*◌, ◌/◌, ◌%◌, ◌<◌, ◌≤◌, cond, List, length, nat_lt, slice_index}
use Rattle.network.specs.declared.Edge.{Edge}
use Rattle.network.specs.declared.Edge.TheVariants.{Horizontal, Vertical}
use Rattle.network.specs.declared.Frame.{Frame}
use Rattle.network.specs.Limits.{least_side, max_side, max_spacing, max_origin, max_network_level}

-- nx columns and ny rows of points, each in its range
pub record Sides (nx ny : ℕ) : Type 0 where
  pub wide : least_side ≤ nx
  pub narrow : nx ≤ max_side
  pub tall : least_side ≤ ny
  pub low : ny ≤ max_side

-- a network of that size, with one level for each point
pub record Sized (levels : List ℕ) (nx ny : ℕ) : Type 0 where
  pub sides : Sides nx ny
  pub full : length levels ≡ ny * nx

-- a network that is not refused, as the functions behind the check know it
pub record Checked (levels : List ℕ) (f : Frame) : Type 0 where
  pub sized : Sized levels f.columns f.rows
  pub near : f.spacing ≤ max_spacing
  pub west : f.west ≤ max_origin
  pub south : f.south ≤ max_origin
  pub quiet : (i : ℕ) → slice_index levels i ≤ max_network_level

-- points are numbered from the south row, west to east
abbrev pub level_at : (levels : List ℕ) (nx row col : ℕ) → ℕ
level_at levels nx row col = slice_index levels (row * nx + col)

-- how many horizontal edges there are, and how many edges
abbrev pub horizontals : ℕ → ℕ → ℕ
horizontals nx ny = ny * (nx - 1)

abbrev pub edges : ℕ → ℕ → ℕ
edges nx ny = horizontals nx ny + (ny - 1) * nx

-- an edge's number
abbrev pub number_of : ℕ → ℕ → Edge → ℕ
number_of nx ny (Horizontal row col) = row * (nx - 1) + col
number_of nx ny (Vertical row col) = horizontals nx ny + row * nx + col

-- the edge of a number
abbrev pub edge_at : ℕ → ℕ → ℕ → Edge
edge_at nx ny n =
    cond (nat_lt n (horizontals nx ny))
    (Horizontal (n / (nx - 1)) (n % (nx - 1)))
    (Vertical ((n - horizontals nx ny) / nx) ((n - horizontals nx ny) % nx))

-- the edge is in the network
abbrev pub WithinEdge : ℕ → ℕ → Edge → Type 0
WithinEdge nx ny (Horizontal row col) = (row < ny) × (col + 1 < nx)
WithinEdge nx ny (Vertical row col) = (row + 1 < ny) × (col < nx)
