-- What "every crossing, one time" says of the contours of a picture, and the order in which they are listed.
-- Assumes nothing.
use Rattle.std.specs.Prelude.{◌≡◌, Bool, true, false, ◌&&◌, cond, ◌⊎◌, List, [], ◌∷◌, ℕ, zero, suc, ◌+◌, ◌≤◌, ◌<◌, ltb}
use Rattle.std.specs.Prelude.{eqb, get_or}
use Rattle.network.specs.Edges.{number_of}
use Rattle.contour_rules.specs.declared.Side.{Side}
use Rattle.contour_rules.specs.Picture.{Picture}
use Rattle.contour_rules.specs.Squares.{WithinSquare, side_edge}
use Rattle.contour_rules.specs.Crossings.{on_border, edges_in, edge_of, crossed_at, enters_at, next_at}
use Rattle.contour_rules.specs.Contours.{Contour, bit, edges_of}

-- how often n occurs
unfoldable pub occurs : ℕ → List ℕ → ℕ
occurs n [] = 0
occurs n (m ∷ ms) = bit (eqb n m) + occurs n ms

-- two edges are different sides of one square of the network
pub record Neighbours (g : Picture) (n m : ℕ) : Type 0 where
  pub row : ℕ
  pub col : ℕ
  pub side : Side
  pub side' : Side
  pub within : WithinSquare g.nx g.ny row col
  pub first : n ≡ number_of g.nx g.ny (side_edge row col side)
  pub second : m ≡ number_of g.nx g.ny (side_edge row col side')
  pub differ : side ≡ side' → ⊥

-- the edge of that number lies on the border
abbrev pub Border : Picture → ℕ → Type 0
Border g n = (n < edges_in g) × (on_border g.nx g.ny (edge_of g n) ≡ true)

-- edge n leads to edge m, over a square that has both as sides
pub record Follows (g : Picture) (n m : ℕ) : Type 0 where
  pub leads : next_at g n ≡ m
  pub neighbours : Neighbours g n m

-- a contour comes into the network over edge n, or goes out of it: then n lies on the border
pub record Enters (g : Picture) (n : ℕ) : Type 0 where
  pub border : Border g n
  pub enters : enters_at g n ≡ true

pub record Exits (g : Picture) (n : ℕ) : Type 0 where
  pub border : Border g n
  pub no_next : next_at g n ≡ edges_in g

-- from n on each edge leads to the one listed after it, and the last one has the property
abbrev pub Chain : (g : Picture) (Last : ℕ → Type 0) (n : ℕ) (ms : List ℕ) → Type 0
Chain g Last n [] = Last n
Chain g Last n (m ∷ ms) = Follows g n m × Chain g Last m ms

-- every number of a list has the property
abbrev pub Each : (ℕ → Type 0) → List ℕ → Type 0
Each P [] = Unit {0}
Each P (n ∷ ns) = P n × Each P ns

-- an open contour starts where it enters and ends where it leaves; a closed one starts at its lowest edge,
-- to which its last one leads
abbrev pub Sound : Picture → Bool → List ℕ → Type 0
Sound g closes [] = ⊥
Sound g false (n ∷ ns) = Enters g n × Chain g (Exits g) n ns
Sound g true (n ∷ ns) = Each (λ m. n ≤ m) ns × Chain g (λ m. Follows g m n) n ns

abbrev pub AllSound : Picture → List Contour → Type 0
AllSound g [] = Unit {0}
AllSound g (c ∷ cs) = Sound g c.closes c.edges × AllSound g cs

-- the edge where a contour starts
abbrev pub first_edge : Contour → ℕ
first_edge c = get_or c.edges 0 0

-- c is listed before d: it is open and d closes, or both are of one kind and c starts at the lower edge
abbrev pub Before : Contour → Contour → Type 0
Before c d =
    ((c.closes ≡ false) × (d.closes ≡ true)) ⊎ ((c.closes ≡ d.closes) × (first_edge c < first_edge d))

-- every contour of a list has the property
abbrev pub All : (Contour → Type 0) → List Contour → Type 0
All P [] = Unit {0}
All P (c ∷ cs) = P c × All P cs

-- each contour is listed before all that follow it
abbrev pub Ordered : List Contour → Type 0
Ordered [] = Unit {0}
Ordered (c ∷ cs) = All (Before c) cs × Ordered cs

-- how many steps from edge to edge a contour makes, its closing step counted; and all of them
unfoldable pub steps : Bool → List ℕ → ℕ
steps closes [] = 0
steps closes (n ∷ []) = bit closes
steps closes (n ∷ (m ∷ ms)) = 1 + steps closes (m ∷ ms)

unfoldable pub steps_of : List Contour → ℕ
steps_of [] = 0
steps_of (c ∷ cs) = steps c.closes c.edges + steps_of cs

-- how many contours are open
unfoldable pub opens : List Contour → ℕ
opens [] = 0
opens (c ∷ cs) = cond c.closes 0 1 + opens cs

-- how many crossed edges there are below n
unfoldable pub crossings : Picture → ℕ → ℕ
crossings g zero = 0
crossings g (suc n) = crossings g n + bit (crossed_at g n)

-- f 0 + f 1 + .. up to f (n − 1)
unfoldable pub sum_to : (ℕ → ℕ) → ℕ → ℕ
sum_to f zero = 0
sum_to f (suc n) = sum_to f n + f n

-- what is asked of a list of contours; the theorem is that those of `contours_of` have it
pub record EachOnce (g : Picture) (cs : List Contour) : Type 0 where
  -- together they hold each crossed edge once, and no other edge
  pub once : (n : ℕ) → occurs n (edges_of cs) ≡ bit (ltb n (edges_in g) && crossed_at g n)
  -- each edge leads to the next one listed; open contours run from where they enter to where they leave,
  -- and closed ones come back
  pub sound : AllSound g cs
  -- open contours before closed ones, and each kind by its first edges
  pub ordered : Ordered cs
  -- the steps made are the crossed edges less the open contours
  pub steps_made_rule : steps_of cs + opens cs ≡ crossings g (edges_in g)
