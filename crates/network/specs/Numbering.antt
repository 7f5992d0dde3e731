-- The rules, "Network and contours", on points, edges and crossings, with its formulas written out.
-- Assumes nothing.
use Rattle.std.specs.Prelude.{◌≡◌, ℕ, ◌+◌, ◌-◌, ◌*◌, ◌<◌, ◌≤◌, true, ◌⊎◌, ◌↔◌, List, slice_index}
use Rattle.network.specs.declared.Edge.TheVariants.{Horizontal, Vertical}
use Rattle.network.specs.Edges.{edges, number_of, edge_at}
use Rattle.network.specs.Crossed.{inside_of, crossed_at}

-- points are numbered from the south row, west to east
abbrev pub point_level : (levels : List ℕ) (nx row col : ℕ) → ℕ
point_level levels nx row col = slice_index levels (row * nx + col)

-- one is in if its level is at least v, and else out
abbrev pub In : (levels : List ℕ) (nx v row col : ℕ) → Type 0
In levels nx v row col = v ≤ point_level levels nx row col

abbrev pub Out : (levels : List ℕ) (nx v row col : ℕ) → Type 0
Out levels nx v row col = point_level levels nx row col < v

-- d is |x − y|
pub record Apart (x y d : ℕ) : Type 0 where
  pub more : y ≤ x → d + y ≡ x
  pub less : x ≤ y → d + x ≡ y

-- on an edge from a (west or south end) to b, num = |v−a| and den = |b−a|
abbrev pub Parts : (v a b num den : ℕ) → Type 0
Parts v a b num den = Apart v a num × Apart b a den

-- which edge has which number
pub record EdgesNumbered (nx ny : ℕ) : Type 0 where
  -- the horizontal edge at row r, column c has the number r·(nx−1)+c
  pub lying : (row col : ℕ) → row < ny → col + 1 < nx
      → (number_of nx ny (Horizontal row col) ≡ row * (nx - 1) + col)
      × (edge_at nx ny (row * (nx - 1) + col) ≡ Horizontal row col)
  -- vertical edges follow: ny·(nx−1)+r·nx+c, from row r to r+1
  pub standing : (row col : ℕ) → row + 1 < ny → col < nx
      → (number_of nx ny (Vertical row col) ≡ ny * (nx - 1) + row * nx + col)
      × (edge_at nx ny (ny * (nx - 1) + row * nx + col) ≡ Vertical row col)
  -- these are all
  pub count : edges nx ny ≡ ny * (nx - 1) + (ny - 1) * nx
  pub below : (row col : ℕ) → (row < ny → col + 1 < nx → row * (nx - 1) + col < edges nx ny)
      × (row + 1 < ny → col < nx → ny * (nx - 1) + row * nx + col < edges nx ny)
  pub number : (n : ℕ) → n < edges nx ny → number_of nx ny (edge_at nx ny n) ≡ n

-- an edge between two points is crossed: one is in and the other is not
abbrev pub OneIn : (levels : List ℕ) (nx v row col row' col' : ℕ) → Type 0
OneIn levels nx v row col row' col' =
    (In levels nx v row col × Out levels nx v row' col') ⊎ (Out levels nx v row col × In levels nx v row' col')

-- which points are in and which edges are crossed, by the levels alone
pub record CrossedExactly (levels : List ℕ) (nx ny v : ℕ) : Type 0 where
  pub inside : (row col : ℕ) → (inside_of levels nx v row col ≡ true) ↔ In levels nx v row col
  pub lying : (row col : ℕ) → row < ny → col + 1 < nx
      → (crossed_at levels nx ny v (row * (nx - 1) + col) ≡ true) ↔ OneIn levels nx v row col row (col + 1)
  pub standing : (row col : ℕ) → row + 1 < ny → col < nx
      → (crossed_at levels nx ny v (ny * (nx - 1) + row * nx + col) ≡ true)
      ↔ OneIn levels nx v row col (row + 1) col
