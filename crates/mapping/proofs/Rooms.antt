-- Calls that write map points and crossings into lent room: what they leave by each way out, and that two outcomes are
-- equal. Assumes nothing.
use mathlib.Core.{Path.◌≡◌, Bool.false, List.List}
use Rattle.std.specs.Prelude.{ℕ, ◌*◌, ◌<◌}
use lib.{Ieee.Float, ListN.length}
use Rattle.room.specs.Room.{then_room}
use Rattle.room.proofs.Answers.{short_first, short_second, one_outcome_two}
use Rattle.network.specs.declared.Frame.{Frame}
use Rattle.network.specs.Refusals.{contour_refusal}
use Rattle.mapping.specs.{Many.Many, OneCrossing.OneCrossing}
use Rattle.mapping.proofs.Fill.{length-numbers, length_places}

-- past the check of a network that is right, 14 is what is left
pub then_short : (levels : List ℕ) (f : Frame) (v : ℕ) → contour_refusal levels f v ≡ 0
    → 14 ≡ then_room (contour_refusal levels f v) false
then_short levels f v right = rw right

module _ (levels : List ℕ) (f : Frame) (v : ℕ) (edges which : List ℕ) (places : List Float) where
  module _ (right : contour_refusal levels f v ≡ 0) where
    pub short_places : length places < 2 * length edges → Many levels f v edges which places 14 which places
    short_places h = short_second (rw (length_places levels f v edges) h) (then_short levels f v right)

    pub short_which : length which < length edges → Many levels f v edges which places 14 which places
    short_which h = short_first (rw (length-numbers levels f v edges) h) (then_short levels f v right)

  -- two outcomes of one call are equal
  pub one_outcome : {n n' : ℕ} {w w' : List ℕ} {p p' : List Float} → Many levels f v edges which places n w p
      → Many levels f v edges which places n' w' p' → (n ≡ n') × ((w ≡ w') × (p ≡ p'))
  one_outcome a b = one_outcome_two a b

pub one_crossing : (levels : List ℕ) (f : Frame) (v n : ℕ) (which : List ℕ) (fraction : List Float) {k k' : ℕ}
    {w w' : List ℕ} {p p' : List Float} → OneCrossing levels f v n which fraction k w p
    → OneCrossing levels f v n which fraction k' w' p' → (k ≡ k') × ((w ≡ w') × (p ≡ p'))
one_crossing levels f v n which fraction a b = one_outcome_two a b
