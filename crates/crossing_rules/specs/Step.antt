-- A contour's step from edge to edge, and where it enters and leaves the network, said of the levels and by the edges'
-- numbers: RULES, "Network and contours". A square has the row and column of its south-west corner. Assumes nothing.
use Rattle.std.specs.Prelude.{◌≡◌, ◌⊎◌, ◌↔◌, List, ℕ, ◌+◌, ◌-◌, ◌*◌, ◌≤◌, ◌<◌, get_or}
use Rattle.contour_rules.specs.declared.Side.{Side}
use Rattle.contour_rules.specs.declared.Side.TheVariants.{South, East, North, West}

-- the point of a row and column is in if its level, by its number, is at least v, and else out; written out here once
-- more, so that a step doesn't rest on what network calls in, as the numbers of crossed edges do
abbrev pub In : (levels : List ℕ) (nx v row col : ℕ) → Type 0
In levels nx v row col = v ≤ get_or levels (row * nx + col) 0

abbrev pub Out : (levels : List ℕ) (nx v row col : ℕ) → Type 0
Out levels nx v row col = get_or levels (row * nx + col) 0 < v

-- the number of a square's edge at a side
abbrev pub side_number : (nx ny row col : ℕ) → Side → ℕ
side_number nx ny row col South = row * (nx - 1) + col
side_number nx ny row col East = ny * (nx - 1) + row * nx + (col + 1)
side_number nx ny row col North = (row + 1) * (nx - 1) + col
side_number nx ny row col West = ny * (nx - 1) + row * nx + col

-- the point of a row and column is an end of that edge
abbrev pub EndOf : (row col : ℕ) (side : Side) (row' col' : ℕ) → Type 0
EndOf row col South row' col' = (row' ≡ row) × ((col' ≡ col) ⊎ (col' ≡ col + 1))
EndOf row col East row' col' = ((row' ≡ row) ⊎ (row' ≡ row + 1)) × (col' ≡ col + 1)
EndOf row col North row' col' = (row' ≡ row + 1) × ((col' ≡ col) ⊎ (col' ≡ col + 1))
EndOf row col West row' col' = ((row' ≡ row) ⊎ (row' ≡ row + 1)) × (col' ≡ col)

-- that edge lies on the border of the network
abbrev pub OnBorder : (nx ny row col : ℕ) → Side → Type 0
OnBorder nx ny row col South = row ≡ 0
OnBorder nx ny row col East = col + 2 ≡ nx
OnBorder nx ny row col North = row + 2 ≡ ny
OnBorder nx ny row col West = col ≡ 0

-- a crossing heads over that edge into the square, with the in end on its left: north over the south side, and so on
abbrev pub HeadsIn : (levels : List ℕ) (nx v row col : ℕ) → Side → Type 0
HeadsIn levels nx v row col South = In levels nx v row col × Out levels nx v row (col + 1)
HeadsIn levels nx v row col East = In levels nx v row (col + 1) × Out levels nx v (row + 1) (col + 1)
HeadsIn levels nx v row col North = Out levels nx v (row + 1) col × In levels nx v (row + 1) (col + 1)
HeadsIn levels nx v row col West = Out levels nx v row col × In levels nx v (row + 1) col

-- or out of it
abbrev pub HeadsOut : (levels : List ℕ) (nx v row col : ℕ) → Side → Type 0
HeadsOut levels nx v row col South = Out levels nx v row col × In levels nx v row (col + 1)
HeadsOut levels nx v row col East = Out levels nx v row (col + 1) × In levels nx v (row + 1) (col + 1)
HeadsOut levels nx v row col North = In levels nx v (row + 1) col × Out levels nx v (row + 1) (col + 1)
HeadsOut levels nx v row col West = In levels nx v row col × Out levels nx v (row + 1) col

-- the four corners of a square added up
abbrev pub corners_of : (levels : List ℕ) (nx row col : ℕ) → ℕ
corners_of levels nx row col =
    get_or levels (row * nx + col) 0 + get_or levels (row * nx + (col + 1)) 0
    + get_or levels ((row + 1) * nx + col) 0 + get_or levels ((row + 1) * nx + (col + 1)) 0

module _ (levels : List ℕ) (nx ny v : ℕ) where
  -- one end of the side is in and the other is not
  abbrev pub Crossed : (row col : ℕ) → Side → Type 0
  Crossed row col t = HeadsIn levels nx v row col t ⊎ HeadsOut levels nx v row col t

  -- two sides meet in a corner, which is out exactly if the four corners add up to at least 4v, and otherwise in
  pub record CutOff (row col : ℕ) (side side' : Side) : Type 0 where
    pub row' : ℕ
    pub col' : ℕ
    pub meet : EndOf row col side row' col' × EndOf row col side' row' col'
    pub out_corner : Out levels nx v row' col' ↔ (4 * v ≤ corners_of levels nx row col)
    pub in_corner : In levels nx v row' col' ↔ (corners_of levels nx row col < 4 * v)

  -- no other side of the square is crossed; or all four are, and the two cut off a corner
  abbrev pub Joined : (row col : ℕ) (side side' : Side) → Type 0
  Joined row col side side' =
      ((t : Side) → Crossed row col t → (t ≡ side) ⊎ (t ≡ side'))
      ⊎ (((t : Side) → Crossed row col t) × CutOff row col side side')

  -- the rule's step from edge n to edge m: they are different edges, and different sides of one square of the network,
  -- which the line enters over n and leaves over m
  pub record Step (n m : ℕ) : Type 0 where
    pub row : ℕ
    pub col : ℕ
    pub within : (row + 1 < ny) × (col + 1 < nx)
    pub side : Side
    pub side' : Side
    pub first : n ≡ side_number nx ny row col side
    pub second : m ≡ side_number nx ny row col side'
    pub sides_differ : side ≡ side' → ⊥
    pub edges_differ : n ≡ m → ⊥
    pub enters : HeadsIn levels nx v row col side
    pub leaves : HeadsOut levels nx v row col side'
    pub joined : Joined row col side side'

-- edge n lies on the border of the network, and a crossing heads over it in or out
pub record OverBorder (nx ny : ℕ) (Heads : (row col : ℕ) → Side → Type 0) (n : ℕ) : Type 0 where
  pub row : ℕ
  pub col : ℕ
  pub within : (row + 1 < ny) × (col + 1 < nx)
  pub side : Side
  pub number : n ≡ side_number nx ny row col side
  pub border : OnBorder nx ny row col side
  pub heads : Heads row col side

-- a contour comes into the network over edge n, or goes out of it
abbrev pub ComesIn : (levels : List ℕ) (nx ny v n : ℕ) → Type 0
ComesIn levels nx ny v n = OverBorder nx ny (HeadsIn levels nx v) n

abbrev pub GoesOut : (levels : List ℕ) (nx ny v n : ℕ) → Type 0
GoesOut levels nx ny v n = OverBorder nx ny (HeadsOut levels nx v) n
