-- What the call for contours leaves in the room lent to it, read back: RULES, "Network and contours": an answer lists
-- edge numbers, and for each contour its count and whether it closes; room past the answer keeps its bytes.
-- Assumes nothing.
use Rattle.std.specs.Prelude.{◌≡◌, ℕ, ◌≤◌, List, [], ◌∷◌, length, take, drop, ◌==◌, ◌≢◌, slice_index}
use Rattle.network.specs.declared.Frame.{Frame}
use Rattle.network.specs.Ranges.{RoomRefused}
use Rattle.contour_rules.specs.Picture.{picture}
use Rattle.contour_rules.specs.Contours.{Contour, contours_of, edges_of}
use Rattle.contour.specs.Answers.{Outcome}

-- the contours that numbers tell: edges, one contour after the other; how many each has; and 1 where it closes
unfoldable pub contours_told : (edges counts closed : List ℕ) → List Contour
contours_told edges [] closed = []
contours_told edges (m ∷ counts) closed =
    record { edges = take m edges; closes = (slice_index closed 0 == 1) }
    ∷ contours_told (drop m edges) counts (drop 1 closed)

module _ (levels : List ℕ) (f : Frame) (v : ℕ) (edges counts closed sizes : List ℕ) where
  abbrev pub found : List Contour
  found = contours_of (picture levels f.columns f.rows v)

  -- the room suffices
  pub record Enough : Type 0 where
    pub edges_fit : length (edges_of found) ≤ length edges
    pub counts_fit_rule : length found ≤ length counts
    pub closed_fit : length found ≤ length closed
    pub sizes_fit_rule : 2 ≤ length sizes

  pub record Told (o : Outcome) : Type 0 where
    pub refusal : RoomRefused levels f v Enough o.answer
    pub refused : (o.answer ≢ 0)
        → (o.edges ≡ edges) × ((o.counts ≡ counts) × ((o.closed ≡ closed) × (o.sizes ≡ sizes)))
    -- the first two sizes say how many edges and contours there are, and so much of each list tells the contours
    pub tells : o.answer ≡ 0
        → contours_told (take (slice_index o.sizes 0) o.edges) (take (slice_index o.sizes 1) o.counts)
        (take (slice_index o.sizes 1) o.closed)
        ≡ found
    -- the rest stays
    pub edges_kept : o.answer ≡ 0
        → (i : ℕ) → slice_index o.sizes 0 ≤ i → slice_index o.edges i ≡ slice_index edges i
    pub counts_kept : o.answer ≡ 0
        → (i : ℕ) → slice_index o.sizes 1 ≤ i → slice_index o.counts i ≡ slice_index counts i
    pub closed_kept : o.answer ≡ 0
        → (i : ℕ) → slice_index o.sizes 1 ≤ i → slice_index o.closed i ≡ slice_index closed i
    pub sizes_kept : o.answer ≡ 0 → (i : ℕ) → 2 ≤ i → slice_index o.sizes i ≡ slice_index sizes i
