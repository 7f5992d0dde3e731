-- The days of all years before a year as one formula, the days of months added up, and bounds on both. Assumes nothing.
use mathlib.Core.{Path.◌≡◌, Path.refl, Path.ap, Path.◌∙◌, Bool.Bool, Bool.true, Bool.false, Bool.cond}
use Prim.Native.Nat.{ℕ, zero, suc, ◌+◌, ◌*◌, ◌-◌, ◌/◌, ◌%◌, ◌≤◌}
use native.Mathlib.{Omega.arith, Nat.zero-add, Nat.suc-add}
use lib.Dec.{eqb}
use borrow.Author.Tests.{eqb-true, eqb-false}
use Rattle.date.specs.Calendar.{leap_by, leap, leap_day, of_thirty, month_length, before_year, first_months}
use Rattle.date.proofs.Leaps.{by_100, by_4}

abbrev pub formula : ℕ → ℕ
formula y = 365 * y + (y + 3) / 4 - (y + 99) / 100 + (y + 399) / 400

-- each quotient rises by one where its divisor divides y, and else stays
rises_4 : (y : ℕ) → y % 4 ≡ 0 → (suc y + 3) / 4 ≡ (y + 3) / 4 + 1
rises_4 y h = omega arith

stays_4 : (y : ℕ) → (y % 4 ≡ 0 → ⊥) → (suc y + 3) / 4 ≡ (y + 3) / 4
stays_4 y h = omega arith

rises_100 : (y : ℕ) → y % 100 ≡ 0 → (suc y + 99) / 100 ≡ (y + 99) / 100 + 1
rises_100 y h = omega arith

stays_100 : (y : ℕ) → (y % 100 ≡ 0 → ⊥) → (suc y + 99) / 100 ≡ (y + 99) / 100
stays_100 y h = omega arith

rises_400 : (y : ℕ) → y % 400 ≡ 0 → (suc y + 399) / 400 ≡ (y + 399) / 400 + 1
rises_400 y h = omega arith

stays_400 : (y : ℕ) → (y % 400 ≡ 0 → ⊥) → (suc y + 399) / 400 ≡ (y + 399) / 400
stays_400 y h = omega arith

few : (y : ℕ) → (y + 99) / 100 ≤ y
few y = omega arith

-- a year's days on top of the counts before it
sum : (y a b d a' b' d' l : ℕ) → b ≤ y → b' ≤ suc y → a' + b + d' ≡ a + b' + d + l
    → 365 * y + a - b + d + (365 + l) ≡ 365 * suc y + a' - b' + d'
sum y a b d a' b' d' l h k e = omega arith

counted : (y : ℕ) (a b d : Bool) → eqb (y % 400) 0 ≡ a → eqb (y % 100) 0 ≡ b → eqb (y % 4) 0 ≡ d
    → formula y + (365 + cond (leap_by a b d) 1 0) ≡ formula (suc y)
counted y true b d e f g =
    let by400 = eqb-true (y % 400) 0 e in
    let by100 = by_100 y by400 in
    sum y _ _ _ _ _ _ 1 (few y) (few (suc y))
    (rw (rises_4 y (by_4 y by100), rises_100 y by100, rises_400 y by400) (omega arith))
counted y false true d e f g =
    let by100 = eqb-true (y % 100) 0 f in
    let no400 = eqb-false (y % 400) 0 e in
    sum y _ _ _ _ _ _ 0 (few y) (few (suc y))
    (rw (rises_4 y (by_4 y by100), rises_100 y by100, stays_400 y no400) (omega arith))
counted y false false true e f g =
    let by4 = eqb-true (y % 4) 0 g in
    let no100 = eqb-false (y % 100) 0 f in
    let no400 = eqb-false (y % 400) 0 e in
    sum y _ _ _ _ _ _ 1 (few y) (few (suc y))
    (rw (rises_4 y by4, stays_100 y no100, stays_400 y no400) (omega arith))
counted y false false false e f g =
    let no4 = eqb-false (y % 4) 0 g in
    let no100 = eqb-false (y % 100) 0 f in
    let no400 = eqb-false (y % 400) 0 e in
    sum y _ _ _ _ _ _ 0 (few y) (few (suc y))
    (rw (stays_4 y no4, stays_100 y no100, stays_400 y no400) (omega arith))

pub before_formula : (y : ℕ) → before_year y ≡ formula y
unfolding before_year leap_day
before_formula zero = refl
before_formula (suc y) =
    ap (λ n. n + (365 + leap_day y)) (before_formula y)
    ∙ counted y (eqb (y % 400) 0) (eqb (y % 100) 0) (eqb (y % 4) 0) refl refl refl

-- Bounds

one_or_none : (b : Bool) → cond b 1 0 ≤ 1
one_or_none true = omega arith
one_or_none false = omega arith

pub leap_at_most : (y : ℕ) → leap_day y ≤ 1
unfolding leap_day
leap_at_most y = one_or_none (leap y)

month_between : (a b : Bool) (l : ℕ) → l ≤ 1
    → (28 ≤ cond a (28 + l) (cond b 30 31)) × (cond a (28 + l) (cond b 30 31) ≤ 31)
month_between true b l h = omega arith
month_between false true l h = omega arith
month_between false false l h = omega arith

pub month_at_least : (y m : ℕ) → 28 ≤ month_length y m
unfolding month_length
month_at_least y m = (month_between (eqb m 2) (of_thirty m) (leap_day y) (leap_at_most y)).0

pub month_at_most : (y m : ℕ) → month_length y m ≤ 31
unfolding month_length
month_at_most y m = (month_between (eqb m 2) (of_thirty m) (leap_day y) (leap_at_most y)).1

pub months_at_most : (y k : ℕ) → first_months y k ≤ 31 * k
unfolding first_months
months_at_most y zero = omega arith
months_at_most y (suc k) = omega (arith, months_at_most y k, month_at_most y (suc k))

formula_at_most : (y : ℕ) → formula y ≤ 367 * y + 2
formula_at_most y = omega arith

pub before_at_most : (y : ℕ) → before_year y ≤ 367 * y + 2
before_at_most y = omega (arith, before_formula y, formula_at_most y)

-- One month more, all twelve, and later months and years

pub months_more : (y k : ℕ) → 1 ≤ k → first_months y k ≡ first_months y (k - 1) + month_length y k
unfolding first_months
months_more y zero h = absurd (omega arith)
months_more y (suc k) h = let e : k ≡ suc k - 1 = omega arith in ap (λ n. first_months y n + month_length y (suc k)) e

pub twelve : (y : ℕ) → first_months y 12 ≡ 365 + leap_day y
unfolding first_months month_length
twelve y = omega arith

months_on : (y j n : ℕ) → first_months y j ≤ first_months y (n + j)
unfolding first_months
months_on y j zero = rw zero-add (omega arith)
months_on y j (suc n) = rw suc-add (omega (arith, months_on y j n))

pub months_rise : (y j k : ℕ) → j ≤ k → first_months y j ≤ first_months y k
months_rise y j k h = let e : k - j + j ≡ k = omega arith in rw e at (months_on y j (k - j))

years_on : (y n : ℕ) → before_year y ≤ before_year (n + y)
unfolding before_year
years_on y zero = rw zero-add (omega arith)
years_on y (suc n) = rw suc-add (omega (arith, years_on y n))

pub years_rise : (y z : ℕ) → y ≤ z → before_year y ≤ before_year z
years_rise y z h = let e : z - y + y ≡ z = omega arith in rw e at (years_on y (z - y))
