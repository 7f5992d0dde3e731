-- Of the hill of the rules, whose contour is 2, 7, 3, 10, the two rings 2, 7 and 3, 10 are refused: each crossing
-- once is not enough. Assumes nothing.
use mathlib.Core.{Path.◌≡◌, Path.refl, Bool.true, List.List, List.[], List.◌∷◌}
use Prim.Native.Nat.{ℕ}
use native.Mathlib.Omega.{arith}
use Rattle.contour_rules.specs.{Picture.Picture, Picture.picture, Crossings.next_at, Contours.Contour}
use Rattle.contour_rules.specs.Once.{EachOnce}

abbrev pub hill : Picture
hill = picture (40000 ∷ 40000 ∷ 40000 ∷ 40000 ∷ 50000 ∷ 40000 ∷ 40000 ∷ 40000 ∷ 40000 ∷ []) 3 3 45000

abbrev pub ring : List ℕ → Contour
ring ns = record { edges = ns; closes = true }

seven_to_three : next_at hill 7 ≡ 3
seven_to_three = refl

pub not_two_rings : EachOnce hill (ring (2 ∷ 7 ∷ []) ∷ ring (3 ∷ 10 ∷ []) ∷ []) → ⊥
not_two_rings e = omega (arith, seven_to_three, e.sound.0.1.1.leads)
