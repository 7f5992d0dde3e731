-- A year is a leap year exactly by the rule: 4 divides it, and 100 doesn't or 400 does. Assumes nothing.
use mathlib.Core.Path.{◌≡◌, refl, ap, ◌∙◌}
use mathlib.Core.{Bool.Bool, Bool.true, Bool.false, Bool.cond, Bool.false≢true, Logic.inl, Logic.inr}
use Prim.Native.Nat.{ℕ, ◌%◌}
use native.Mathlib.Omega.{arith}
use lib.Dec.{eqb}
use borrow.Author.Tests.{eqb-true, eqb-false, eq-eqb, ne_eqb}
use Rattle.date.specs.Calendar.{leap_by, leap, leap_day}
use Rattle.date.specs.Promises.{LeapYear}

pub by_100 : (y : ℕ) → y % 400 ≡ 0 → y % 100 ≡ 0
by_100 y h = omega arith

pub by_4 : (y : ℕ) → y % 100 ≡ 0 → y % 4 ≡ 0
by_4 y h = omega arith

leap_rule : (y : ℕ) (a b d : Bool) → eqb (y % 400) 0 ≡ a → eqb (y % 100) 0 ≡ b → eqb (y % 4) 0 ≡ d
    → leap_by a b d ≡ true → LeapYear y
leap_rule y true b d e f g l = let by400 = eqb-true (y % 400) 0 e in (by_4 y (by_100 y by400), inr by400)
leap_rule y false true d e f g l = absurd (false≢true l)
leap_rule y false false d e f g l = (eqb-true (y % 4) 0 (g ∙ l), inl (eqb-false (y % 100) 0 f))

rule_leap : (y : ℕ) → LeapYear y → leap y ≡ true
rule_leap y (by4, inl no100) =
    rw (ne_eqb (y % 400) 0 (λ e. no100 (by_100 y e)), ne_eqb (y % 100) 0 no100, eq-eqb (y % 4) 0 by4)
rule_leap y (by4, inr by400) = rw (eq-eqb (y % 400) 0 by400)

one_only : (b : Bool) → ◌≡◌ {A = ℕ} (cond b 1 0) 1 → b ≡ true
one_only true e = refl
one_only false e = absurd (omega arith)

pub day_rule : (y : ℕ) → leap_day y ≡ 1 → LeapYear y
unfolding leap_day
day_rule y e =
    leap_rule y (eqb (y % 400) 0) (eqb (y % 100) 0) (eqb (y % 4) 0) refl refl refl (one_only (leap y) e)

pub rule_day_lem : (y : ℕ) → LeapYear y → leap_day y ≡ 1
unfolding leap_day
rule_day_lem y l = ap (λ b. cond b 1 0) (rule_leap y l)
