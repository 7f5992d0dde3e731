-- How a contour goes from edge to edge: RULES, "Network and contours", said of the levels themselves.
-- Assumes nothing.
use Rattle.std.specs.Prelude.{None}
use Rattle.std.specs.Prelude.{◌≡◌, true, ◌⊎◌, ◌↔◌, List, ℕ, ◌+◌, ◌-◌, ◌*◌, ◌≤◌, ◌<◌}
use Rattle.network.specs.declared.Edge.{Edge}
use Rattle.network.specs.declared.Edge.TheVariants.{Horizontal, Vertical}
use Rattle.network.specs.Edges.{edges, number_of, WithinEdge}
use Rattle.network.specs.Numbering.{point_level, In, Out, OneIn}
use Rattle.contour_rules.specs.declared.Side.{Side}
use Rattle.contour_rules.specs.declared.Side.TheVariants.{South, East, North, West}
use Rattle.contour_rules.specs.Crossings.{into}
use Rattle.contour_rules.specs.Picture.{Picture, picture}
use Rattle.contour_rules.specs.Squares.{side_edge}
use Rattle.contour_rules.specs.Crossings.{crossed, ahead_of, edges_in, crossed_at, enters_at, next_at}

-- the sides of the square whose south-west corner is the point of that row and column
pub record SquareSides (row col : ℕ) : Type 0 where
  pub south : side_edge row col South ≡ Horizontal row col
  pub east : side_edge row col East ≡ Vertical row (col + 1)
  pub north : side_edge row col North ≡ Horizontal (row + 1) col
  pub west : side_edge row col West ≡ Vertical row col

-- the point of that row and column is an end of the edge
abbrev pub HasEnd : Edge → ℕ → ℕ → Type 0
HasEnd (Horizontal row col) row' col' = (row' ≡ row) × ((col' ≡ col) ⊎ (col' ≡ col + 1))
HasEnd (Vertical row col) row' col' = ((row' ≡ row) ⊎ (row' ≡ row + 1)) × (col' ≡ col)

-- the four corners added
abbrev pub four_corners : (levels : List ℕ) (nx row col : ℕ) → ℕ
four_corners levels nx row col =
    point_level levels nx row col + point_level levels nx row (col + 1)
    + point_level levels nx (row + 1) col + point_level levels nx (row + 1) (col + 1)

module _ (levels : List ℕ) (nx ny v : ℕ) where
  abbrev pub lines : Picture
  lines = picture levels nx ny v

  abbrev pub IsCrossed : Edge → Type 0
  IsCrossed e = crossed lines e ≡ true

  -- An edge of the network is crossed exactly if one of its two points is in and the other is not;
  -- so is the edge of its number, r·(nx−1)+c for a horizontal one and ny·(nx−1)+r·nx+c for a vertical one.
  pub record CrossesExactly (row col : ℕ) : Type 0 where
    pub lying : row < ny → col + 1 < nx → IsCrossed (Horizontal row col) ↔ OneIn levels nx v row col row (col + 1)
    pub standing : row + 1 < ny → col < nx
        → IsCrossed (Vertical row col) ↔ OneIn levels nx v row col (row + 1) col
    pub lying_at : row < ny → col + 1 < nx
        → (crossed_at lines (row * (nx - 1) + col) ≡ true) ↔ OneIn levels nx v row col row (col + 1)
    pub standing_at_rule : row + 1 < ny → col < nx
        → (crossed_at lines (ny * (nx - 1) + row * nx + col) ≡ true) ↔ OneIn levels nx v row col (row + 1) col

  -- Each crossing heads across its edge with the in end on its left, into the square there, or out.
  pub record Heads (row col : ℕ) : Type 0 where
    -- west end in: north; west end out: south
    pub north : In levels nx v row col → row + 1 < ny → ahead_of lines (Horizontal row col) ≡ into row col South
    pub north_out : In levels nx v row col → row + 1 ≡ ny → ahead_of lines (Horizontal row col) ≡ None
    pub south : Out levels nx v (row + 1) col → ahead_of lines (Horizontal (row + 1) col) ≡ into row col North
    pub south_out : Out levels nx v 0 col → ahead_of lines (Horizontal 0 col) ≡ None
    -- south end in: west; south end out: east
    pub west : In levels nx v row (col + 1) → ahead_of lines (Vertical row (col + 1)) ≡ into row col East
    pub west_out : In levels nx v row 0 → ahead_of lines (Vertical row 0) ≡ None
    pub east : Out levels nx v row col → col + 1 < nx → ahead_of lines (Vertical row col) ≡ into row col West
    pub east_out : Out levels nx v row col → col + 1 ≡ nx → ahead_of lines (Vertical row col) ≡ None

  -- A contour enters over a crossed edge of the border that heads inwards.
  pub record EntersExactly (row col : ℕ) : Type 0 where
    pub lying : row < ny → col + 1 < nx → (enters_at lines (row * (nx - 1) + col) ≡ true)
        ↔ (((row ≡ 0) × (In levels nx v row col × Out levels nx v row (col + 1)))
        ⊎ ((row + 1 ≡ ny) × (Out levels nx v row col × In levels nx v row (col + 1))))
    pub standing : row + 1 < ny → col < nx → (enters_at lines (ny * (nx - 1) + row * nx + col) ≡ true)
        ↔ (((col ≡ 0) × (Out levels nx v row col × In levels nx v (row + 1) col))
        ⊎ ((col + 1 ≡ nx) × (In levels nx v row col × Out levels nx v (row + 1) col)))

  -- With four crossed edges: the one entered leads to another one, with which it cuts off a corner,
  -- an out corner if the four corners add up to at least 4v, otherwise an in corner.
  pub record CutsOff (row col : ℕ) (s : Side) : Type 0 where
    pub side' : Side
    pub leads : next_at lines (number_of nx ny (side_edge row col s)) ≡ number_of nx ny (side_edge row col side')
    pub differ : s ≡ side' → ⊥
    pub row' : ℕ
    pub col' : ℕ
    pub shared : HasEnd (side_edge row col s) row' col' × HasEnd (side_edge row col side') row' col'
    pub out_corner : Out levels nx v row' col' ↔ (4 * v ≤ four_corners levels nx row col)
    pub in_corner : In levels nx v row' col' ↔ (four_corners levels nx row col < 4 * v)

  -- A crossed edge that enters a square of the network by its side s
  pub record Entering (row col : ℕ) (s : Side) : Type 0 where
    pub within : (row + 1 < ny) × (col + 1 < nx)
    pub crossing : IsCrossed (side_edge row col s)
    pub heads : ahead_of lines (side_edge row col s) ≡ into row col s

  pub record FollowsRule : Type 0 where
    pub sides : (row col : ℕ) → SquareSides row col
    pub crosses : (row col : ℕ) → CrossesExactly row col
    -- so many edges there are
    pub count : edges_in lines ≡ ny * (nx - 1) + (ny - 1) * nx
    pub heads : (row col : ℕ) → Heads row col
    pub enters : (row col : ℕ) → EntersExactly row col
    -- in a square with two crossed edges the entered one leads to the other
    pub two : (row col : ℕ) (s s' : Side) → Entering row col s
        → ((t : Side) → IsCrossed (side_edge row col t) → (t ≡ s) ⊎ (t ≡ s'))
        → next_at lines (number_of nx ny (side_edge row col s)) ≡ number_of nx ny (side_edge row col s')
    pub four : (row col : ℕ) (s : Side) → Entering row col s → ((t : Side) → IsCrossed (side_edge row col t))
        → CutsOff row col s
    -- one that heads out of the network leads to no edge
    pub none : (e : Edge) → WithinEdge nx ny e → ahead_of lines e ≡ None
        → next_at lines (number_of nx ny e) ≡ edges nx ny
