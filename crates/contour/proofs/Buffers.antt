-- The waiting list filled from the front, one edge at a time. Assumes nothing.
use mathlib.Core.{Path.◌≡◌, Path.refl, Bool.Bool, Bool.true, Bool.false, List.List, List.◌++◌, List.append_assoc}
use Rattle.std.specs.Prelude.{ℕ, suc, ◌+◌, ◌<◌}
use mir.Val.{bool_byte}
use native.Mathlib.{Numerals.add-one}
use lib.{ListN.length, ListN.get_or, ListN.drop, ListN.set}
use lib.Seq.{drop-cons, set_at}
use Rattle.contour_rules.specs.{Picture.Picture, Crossings.crossed_at, Contours.bit, Contours.crossed_to}
use Rattle.contour_rules.proofs.Waiting.{length_crossed}

-- a test as a byte is its bit
pub byte_bit : (b : Bool) → bool_byte b ≡ bit b
byte_bit true = refl
byte_bit false = refl

-- one edge more on the waiting list
pub crossed_more : (g : Picture) (d : List ℕ) (n x : ℕ) → n < length d → x ≡ bit (crossed_at g n)
    → set (crossed_to g n ++ drop n d) n x ≡ crossed_to g (n + 1) ++ drop (n + 1) d
unfolding crossed_to
crossed_more g d n x h e =
    rw (add-one, drop-cons d n 0 h, append_assoc, e)
    (set_at (crossed_to g n) (get_or d n 0) (drop (suc n) d) (bit (crossed_at g n)) n (length_crossed g n))

pub crossed_none : (g : Picture) (d : List ℕ) → d ≡ crossed_to g 0 ++ drop 0 d
unfolding crossed_to
crossed_none g d = refl
