-- What calls for map points leave in lent room, place by place: each edge's number and coordinates are those of the
-- call for one edge, the rest stays, and a refused call changes nothing. Assumes nothing.
use Rattle.std.specs.Prelude.{◌≡◌, ℕ, ◌+◌, ◌*◌, ◌<◌, ◌≤◌, List, length, ◌≢◌, slice_index, slice_index_or, Float}
use Rattle.network.specs.declared.Frame.{Frame}
use Rattle.network.specs.Ranges.{RoomRefused}
use Rattle.mapping.specs.declared.Shown.{Shown}
use Rattle.mapping.specs.Fractions.{whole, crossing_of, which_of, fraction_shown}
use Rattle.mapping.specs.Places.{located_of, shown_of}

module _ (levels : List ℕ) (f : Frame) (v : ℕ) where
  -- what the call for one edge answers, which isn't refused where this one isn't
  abbrev pub shown_at : ℕ → Shown
  shown_at n = shown_of (located_of levels f v n)

  -- many edges, into room for numbers and room for coordinates
  pub record ManyInRoom (edges which : List ℕ) (places : List Float) (answer : ℕ) (which' : List ℕ)
      (places' : List Float) : Type 0 where
    pub refusal
        : RoomRefused levels f v ((length edges ≤ length which) × (2 * length edges ≤ length places)) answer
    pub refused : (answer ≢ 0) → (which' ≡ which) × (places' ≡ places)
    pub number : answer ≡ 0 → (i : ℕ) → i < length edges → slice_index which' i ≡ (shown_at (slice_index edges i)).which
    pub east : answer ≡ 0 → (i : ℕ) → i < length edges
        → slice_index_or places' (2 * i) (whole 0) ≡ (shown_at (slice_index edges i)).x
    pub north : answer ≡ 0 → (i : ℕ) → i < length edges
        → slice_index_or places' (2 * i + 1) (whole 0) ≡ (shown_at (slice_index edges i)).y
    pub which_kept : answer ≡ 0 → (i : ℕ) → length edges ≤ i → slice_index which' i ≡ slice_index which i
    pub places_kept : answer ≡ 0 → (i : ℕ) → 2 * length edges ≤ i
        → slice_index_or places' i (whole 0) ≡ slice_index_or places i (whole 0)

  -- one crossing, into room for its number and room for its fraction
  pub record CrossingInRoom (n : ℕ) (which : List ℕ) (fraction : List Float) (answer : ℕ) (which' : List ℕ)
      (fraction' : List Float) : Type 0 where
    pub refusal : RoomRefused levels f v ((1 ≤ length which) × (1 ≤ length fraction)) answer
    pub refused : (answer ≢ 0) → (which' ≡ which) × (fraction' ≡ fraction)
    pub number : answer ≡ 0 → slice_index which' 0 ≡ which_of (crossing_of levels f v n)
    pub place : answer ≡ 0 → slice_index_or fraction' 0 (whole 0) ≡ fraction_shown (crossing_of levels f v n)
    pub which_kept : answer ≡ 0 → (i : ℕ) → 1 ≤ i → slice_index which' i ≡ slice_index which i
    pub fraction_kept : answer ≡ 0
        → (i : ℕ) → 1 ≤ i → slice_index_or fraction' i (whole 0) ≡ slice_index_or fraction i (whole 0)
