-- A crossing written into lent room. Assumes nothing.
use Rattle.std.specs.Prelude.{ℕ, List, [], ◌∷◌, Float}
use Rattle.room.specs.Room.{WritesTwo}
use Rattle.network.specs.declared.Frame.{Frame}
use Rattle.network.specs.Refusals.{contour_refusal}
use Rattle.mapping.specs.Fractions.{crossing_of, which_of, fraction_shown}

-- what the call answers, and what the lent room holds after it: 12, 13, 15, and then 14 where there is no room for the
-- number or for the fraction
abbrev pub OneCrossing : (levels : List ℕ) (f : Frame) (v n : ℕ) (which : List ℕ) (fraction : List Float)
    (answer : ℕ) (which' : List ℕ) (fraction' : List Float) → Type 0
OneCrossing levels f v n which fraction answer which' fraction' =
    WritesTwo (contour_refusal levels f v) (which_of (crossing_of levels f v n) ∷ [])
    (fraction_shown (crossing_of levels f v n) ∷ []) which fraction answer which' fraction'
