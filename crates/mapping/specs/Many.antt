-- Map points of many edges in one call, written into lent room. Assumes nothing.
use Rattle.std.specs.Prelude.{ℕ, List, [], ◌∷◌, Float}
use Rattle.room.specs.Room.{WritesTwo}
use Rattle.network.specs.declared.Frame.{Frame}
use Rattle.network.specs.Refusals.{contour_refusal}
use Rattle.mapping.specs.Places.{located_of, shown_of}

-- the number, and the coordinates, of the map point of each edge
unfoldable pub numbers_of : (levels : List ℕ) (f : Frame) (v : ℕ) (ns : List ℕ) → List ℕ
numbers_of levels f v [] = []
numbers_of levels f v (n ∷ ns) = (shown_of (located_of levels f v n)).which ∷ numbers_of levels f v ns

unfoldable pub places_of : (levels : List ℕ) (f : Frame) (v : ℕ) (ns : List ℕ) → List Float
places_of levels f v [] = []
places_of levels f v (n ∷ ns) =
    (shown_of (located_of levels f v n)).x ∷ (shown_of (located_of levels f v n)).y ∷ places_of levels f v ns

-- what a call answers, and what the lent room holds after it: 12, 13, 15, and then 14 where the room lent is less than
-- a number and two coordinates an edge
abbrev pub Many : (levels : List ℕ) (f : Frame) (v : ℕ) (edges which : List ℕ) (places : List Float)
    (answer : ℕ) (which' : List ℕ) (places' : List Float) → Type 0
Many levels f v edges which places answer which' places' =
    WritesTwo (contour_refusal levels f v) (numbers_of levels f v edges) (places_of levels f v edges) which places
    answer which' places'
