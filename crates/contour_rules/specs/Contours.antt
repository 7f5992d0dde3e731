-- The contours of a picture, in the order in which the rules list them. Assumes nothing.
use Rattle.std.specs.Prelude.{Bool, true, false, ◌&&◌, ◌||◌, cond, List, [], ◌∷◌, ◌++◌, ℕ, zero, suc, ◌+◌, eqb, length}
use Rattle.std.specs.Prelude.{get_or, set}
use Rattle.contour_rules.specs.Picture.{Picture}
use Rattle.contour_rules.specs.Crossings.{edges_in, crossed_at, enters_at, next_at}

-- the numbers of its edges, in its direction, and whether it closes
pub record Contour : Type 0 where
  pub edges : List ℕ
  pub closes : Bool

-- 1 for true
abbrev pub bit : Bool → ℕ
bit b = cond b 1 0

-- ---- one contour

-- The waiting list has a number for each edge: 1 where it is crossed and no contour has it yet.
abbrev pub waits : List ℕ → ℕ → Bool
waits list n = eqb (get_or list n 0) 1

-- how many edges wait
unfoldable pub waiting : List ℕ → ℕ
waiting [] = 0
waiting (m ∷ list) = bit (eqb m 1) + waiting list

-- the edges from n on, each leading to the next one, until a crossing leaves the network or leads to an edge that no
-- longer waits; at most as many as `most` says
unfoldable pub follow : (next : ℕ → ℕ) (most : ℕ) (list : List ℕ) (n : ℕ) → List ℕ
follow next zero list n = []
follow next (suc most) list n = cond (waits list n) (n ∷ follow next most (set list n 0) (next n)) []

abbrev pub contour_from : Picture → List ℕ → ℕ → List ℕ
contour_from g list n = follow (next_at g) (waiting list) list n

-- the waiting list once a contour has these edges
unfoldable pub without : List ℕ → List ℕ → List ℕ
without list [] = list
without list (n ∷ ns) = without (set list n 0) ns

-- ---- all contours

-- what is listed so far: the edges that still wait, and the contours found
pub record Listing : Type 0 where
  pub list : List ℕ
  pub found : List Contour

-- one contour more
abbrev pub add : Bool → Listing → List ℕ → Listing
add closes l ns =
    record { list = without l.list ns; found = l.found ++ (record { edges = ns; closes = closes } ∷ []) }

-- an open contour starts at an edge where it enters; a closed one, once all open ones are found, at any edge that waits
abbrev pub try : (g : Picture) (closes : Bool) (l : Listing) (n : ℕ) → Listing
try g closes l n =
    cond ((closes || enters_at g n) && waits l.list n) (add closes l (contour_from g l.list n)) l

-- the edges below n are tried in the order of their numbers
unfoldable pub swept : (g : Picture) (closes : Bool) (l : Listing) (n : ℕ) → Listing
swept g closes l zero = l
swept g closes l (suc n) = try g closes (swept g closes l n) n

-- at first the crossed ones among the edges below n wait
unfoldable pub crossed_to : Picture → ℕ → List ℕ
crossed_to g zero = []
crossed_to g (suc n) = crossed_to g n ++ (bit (crossed_at g n) ∷ [])

abbrev pub none_listed : Picture → Listing
none_listed g = record { list = crossed_to g (edges_in g); found = [] }

-- open contours come first, by the number of the border edge where they enter; then closed ones by lowest edge, each
-- starting there
abbrev pub open_listed : Picture → Listing
open_listed g = swept g false (none_listed g) (edges_in g)

abbrev pub all_listed : Picture → Listing
all_listed g = swept g true (open_listed g) (edges_in g)

abbrev pub contours_of : Picture → List Contour
contours_of g = (all_listed g).found

-- ---- the numbers that an answer lists

-- the edges of one contour after the other
unfoldable pub edges_of : List Contour → List ℕ
edges_of [] = []
edges_of (c ∷ cs) = c.edges ++ edges_of cs

-- for each contour how many edges it has, and 1 if it closes
unfoldable pub counts_of : List Contour → List ℕ
counts_of [] = []
counts_of (c ∷ cs) = length c.edges ∷ counts_of cs

unfoldable pub closed_of : List Contour → List ℕ
closed_of [] = []
closed_of (c ∷ cs) = bit c.closes ∷ closed_of cs
