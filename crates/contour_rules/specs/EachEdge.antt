-- Every crossing, one time, said of the levels and by the edge numbers of the rules: where each crossed edge stands.
-- Assumes nothing.
use Rattle.std.specs.Prelude.{◌≡◌, false, ◌⊎◌, ◌↔◌, List, [], ℕ, ◌+◌, ◌-◌, ◌*◌, ◌<◌, length, get_or}
use Rattle.network.specs.Numbering.{OneIn}
use Rattle.contour_rules.specs.Contours.{Contour, edges_of}
use Rattle.contour_rules.specs.Once.{occurs}

-- the edges of contour i, counted from 0
abbrev pub edges_at : List Contour → ℕ → List ℕ
edges_at cs i = (get_or cs i (record { edges = []; closes = false })).edges

-- the number n stands at place j of contour i
pub record StandsAt (cs : List Contour) (n i j : ℕ) : Type 0 where
  pub contour : i < length cs
  pub place : j < length (edges_at cs i)
  pub number : get_or (edges_at cs i) j 0 ≡ n

-- it stands at one place of one contour and at no other
pub record StandsOnce (cs : List Contour) (n : ℕ) : Type 0 where
  pub i : ℕ
  pub j : ℕ
  pub here : StandsAt cs n i j
  pub only : (i' j' : ℕ) → StandsAt cs n i' j' → (i' ≡ i) × (j' ≡ j)

module _ (levels : List ℕ) (nx ny v : ℕ) where
  -- n is the number of a horizontal edge of the network with one point in and the other not
  pub record LyingCrossed (n : ℕ) : Type 0 where
    pub row : ℕ
    pub col : ℕ
    pub within : (row < ny) × (col + 1 < nx)
    pub number : n ≡ row * (nx - 1) + col
    pub one_in : OneIn levels nx v row col row (col + 1)

  -- the same of a vertical one
  pub record StandingCrossed (n : ℕ) : Type 0 where
    pub row : ℕ
    pub col : ℕ
    pub within : (row + 1 < ny) × (col < nx)
    pub number : n ≡ ny * (nx - 1) + row * nx + col
    pub one_in : OneIn levels nx v row col (row + 1) col

  abbrev pub CrossedNumber : ℕ → Type 0
  CrossedNumber n = LyingCrossed n ⊎ StandingCrossed n

  -- what is asked of the contours of a network at level v
  pub record EachCrossedEdgeOnce (cs : List Contour) : Type 0 where
    -- each edge with one point in and the other not stands once in the contours
    pub once : (n : ℕ) → CrossedNumber n → StandsOnce cs n
    -- and no other number does
    pub no_other : (n i j : ℕ) → StandsAt cs n i j → CrossedNumber n
    -- so it is in the contours' edges, listed one contour after the other
    pub listed_once_rule : (n : ℕ) → (occurs n (edges_of cs) ≡ 1) ↔ CrossedNumber n
    pub no_other_listed : (n : ℕ) → (occurs n (edges_of cs) ≡ 0) ↔ (CrossedNumber n → ⊥)
