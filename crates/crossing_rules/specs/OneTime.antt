-- Every crossing, one time, said of the numbers that an answer lists: edges, one contour after the other, for each
-- contour its count, and 1 if it closes or 0; `listed` edges and `contours` contours. RULES, "Network and contours".
-- Assumes nothing.
use Rattle.std.specs.Prelude.{◌≡◌, cond, ◌⊎◌, List, ℕ, ◌+◌, ◌-◌, ◌*◌, ◌≤◌, ◌<◌, nat_le, ◌==◌, length, get_or}
use Rattle.contour_rules.specs.{Once.sum_to, EachEdge.CrossedNumber}
use Rattle.crossing_rules.specs.Step.{Step, ComesIn, GoesOut}

-- ---- how many edges of a network are crossed

-- 1 where one of two levels is in and the other is not
abbrev pub one_in : (v a b : ℕ) → ℕ
one_in v a b = cond (nat_le v a) (cond (nat_le v b) 0 1) (cond (nat_le v b) 1 0)

-- counted along the rows, and along the columns
abbrev pub crossed_edges : (levels : List ℕ) (nx ny v : ℕ) → ℕ
crossed_edges levels nx ny v =
    let at : ℕ → ℕ → ℕ = λ row col. get_or levels (row * nx + col) 0 in
    sum_to (λ row. sum_to (λ col. one_in v (at row col) (at row (col + 1))) (nx - 1)) ny
    + sum_to (λ row. sum_to (λ col. one_in v (at row col) (at (row + 1) col)) nx) (ny - 1)

-- ---- the numbers of an answer

-- contour i starts behind all edges of the contours before it
abbrev pub start_of : (counts : List ℕ) (i : ℕ) → ℕ
start_of counts i = sum_to (λ k. get_or counts k 0) i

-- its edge j, counted from 0
abbrev pub edge_of : (edges counts : List ℕ) (i j : ℕ) → ℕ
edge_of edges counts i j = get_or edges (start_of counts i + j) 0

-- a contour's steps from edge to edge: one fewer than edges, and one more where it closes, from the last to the first
abbrev pub steps_of : (count mark : ℕ) → ℕ
steps_of count mark = count - 1 + mark

abbrev pub steps_made : (counts closed : List ℕ) (contours : ℕ) → ℕ
steps_made counts closed contours = sum_to (λ i. steps_of (get_or counts i 0) (get_or closed i 0)) contours

-- how many contours are open
abbrev pub open_ones : (closed : List ℕ) (contours : ℕ) → ℕ
open_ones closed contours = sum_to (λ i. cond (get_or closed i 0 == 0) 1 0) contours

module _ (edges counts : List ℕ) (contours : ℕ) where
  -- the number n stands as edge j of contour i
  pub record StandsAt (n i j : ℕ) : Type 0 where
    pub contour : i < contours
    pub place : j < get_or counts i 0
    pub number : edge_of edges counts i j ≡ n

  -- and nowhere else
  pub record StandsOnce (n : ℕ) : Type 0 where
    pub i : ℕ
    pub j : ℕ
    pub here : StandsAt n i j
    pub only : (i' j' : ℕ) → StandsAt n i' j' → (i' ≡ i) × (j' ≡ j)

  -- the listed number at a place is an edge of a contour
  pub record OnContour (place : ℕ) : Type 0 where
    pub i : ℕ
    pub j : ℕ
    pub here : StandsAt (get_or edges place 0) i j
    pub at : place ≡ start_of counts i + j

-- contour i is listed before contour i': it is open and the other closes, or they are of one kind and it starts at the
-- lower edge
abbrev pub Before : (edges counts closed : List ℕ) (i i' : ℕ) → Type 0
Before edges counts closed i i' =
    ((get_or closed i 0 ≡ 0) × (get_or closed i' 0 ≡ 1))
    ⊎ ((get_or closed i 0 ≡ get_or closed i' 0) × (edge_of edges counts i 0 < edge_of edges counts i' 0))

module _ (levels : List ℕ) (nx ny v : ℕ) (edges counts closed : List ℕ) (listed contours : ℕ) where
  pub record OneTime : Type 0 where
    -- so many numbers are there; each listed edge is on a contour, the counts add up to all of them, each contour has
    -- an edge, and closes or is open
    pub there : (listed ≤ length edges) × ((contours ≤ length counts) × (contours ≤ length closed))
    pub all_on : (place : ℕ) → place < listed → OnContour edges counts contours place
    pub ends_there : start_of counts contours ≡ listed
    pub some : (i : ℕ) → i < contours → 1 ≤ get_or counts i 0
    pub marked : (i : ℕ) → i < contours → (get_or closed i 0 ≡ 0) ⊎ (get_or closed i 0 ≡ 1)
    -- each edge with one point in and the other not stands once, no other number stands, and so many there are
    pub once : (n : ℕ) → CrossedNumber levels nx ny v n → StandsOnce edges counts contours n
    pub no_other : (n i j : ℕ) → StandsAt edges counts contours n i j → CrossedNumber levels nx ny v n
    pub all_listed : listed ≡ crossed_edges levels nx ny v
    -- each edge leads to the next one by the rule's step, and the last of a closed contour to its first
    pub steps : (i j : ℕ) → i < contours → j + 1 < get_or counts i 0
        → Step levels nx ny v (edge_of edges counts i j) (edge_of edges counts i (j + 1))
    pub closing : (i : ℕ) → i < contours → get_or closed i 0 ≡ 1
        → Step levels nx ny v (edge_of edges counts i (get_or counts i 0 - 1)) (edge_of edges counts i 0)
    -- an open contour starts and ends on the border
    pub comes_in : (i : ℕ) → i < contours → get_or closed i 0 ≡ 0
        → ComesIn levels nx ny v (edge_of edges counts i 0)
    pub goes_out : (i : ℕ) → i < contours → get_or closed i 0 ≡ 0
        → GoesOut levels nx ny v (edge_of edges counts i (get_or counts i 0 - 1))
    -- the steps made are the crossed edges less the open contours
    pub steps_made_rule : steps_made counts closed contours + open_ones closed contours ≡ crossed_edges levels nx ny v
    -- open contours come first, each kind by its first edges, and a closed one starts at its lowest edge
    pub in_order : (i i' : ℕ) → i < i' → i' < contours → Before edges counts closed i i'
    pub lowest : (i j : ℕ) → i < contours → get_or closed i 0 ≡ 1 → j < get_or counts i 0
        → edge_of edges counts i 0 ≤ edge_of edges counts i j

-- two answers list the same numbers
pub record Same (edges counts closed : List ℕ) (listed contours : ℕ) (edges' counts' closed' : List ℕ)
    (listed' contours' : ℕ) : Type 0 where
  pub as_many : (listed ≡ listed') × (contours ≡ contours')
  pub same_edges : (place : ℕ) → place < listed → get_or edges place 0 ≡ get_or edges' place 0
  pub same_counts : (i : ℕ) → i < contours → get_or counts i 0 ≡ get_or counts' i 0
  pub same_marks : (i : ℕ) → i < contours → get_or closed i 0 ≡ get_or closed' i 0
