-- Of two dates the lower has the lower day number: a day stands in its month, and a month in its year. Assumes nothing.
use mathlib.Core.{Path.◌≡◌, Path.refl, Path.ap, Bool.Bool, Bool.true, Bool.false}
use Prim.Native.Nat.{ℕ, suc, ◌+◌, ◌-◌, ◌≤◌, ◌<◌}
use native.Mathlib.Omega.{arith}
use lib.Dec.{ltb}
use borrow.Author.Tests.{ltb-true, ltb-false}
use Rattle.date.specs.Calendar.{date_exists, before_year, first_months, day_number, year_of, month_of, day_of}
use Rattle.date.proofs.Years.{months_more, twelve, months_rise, years_rise}
use Rattle.date.proofs.Dates.{Valid, written, whole, valid, day_small, number, number-of, number_small}

in_month : {y m d : ℕ} → Valid y m d → number y m d ≤ before_year y + first_months y m
unfolding number
in_month {y} {m} {d} v = omega (arith, months_more y m v.month_low, v.day_high)

in_year : {y m d : ℕ} → Valid y m d → number y m d ≤ before_year (suc y)
unfolding before_year
in_year {y} {m} {d} v = omega (arith, in_month v, months_rise y m 12 v.month_high, twelve y)

later_year : {y m d y' m' d' : ℕ} → Valid y m d → Valid y' m' d' → y < y'
    → number y m d < number y' m' d'
unfolding number
later_year {y} {m} {d} {y'} v v' h = omega (arith, in_year v, years_rise (suc y) y' h, v'.day_low)

later_month : {y m d m' d' : ℕ} → Valid y m d → Valid y m' d' → m < m'
    → number y m d < number y m' d'
unfolding number
later_month {y} {m} {d} {m'} {d'} v v' h =
    let before : m ≤ m' - 1 = omega arith in
    omega (arith, in_month v, months_rise y m (m' - 1) before, v'.day_low)

later_day : (y : ℕ) {m d m' d' : ℕ} → m' ≡ m → d < d' → number y m d < number y m' d'
unfolding number
later_day y e h = rw e (omega arith)

same_year_lem : {y m d m' d' : ℕ} → Valid y m d → Valid y m' d' → written y m d < written y m' d'
    → number y m d < number y m' d'
same_year_lem {y} {m} {d} {m'} {d'} v v' h = by_month (ltb m m') refl
  where
    by_month : (t : Bool) → ltb m m' ≡ t → number y m d < number y m' d'
    by_month true e = later_month v v' (ltb-true m m' e)
    by_month false e =
        let no-later : m' ≤ m = ltb-false m m' e in
        let alike : m' ≡ m = omega (arith, day_small v') in
        later_day y alike (omega arith)

rise : {y m d y' m' d' : ℕ} → Valid y m d → Valid y' m' d' → written y m d < written y' m' d'
    → number y m d < number y' m' d'
rise {y} {m} {d} {y'} {m'} {d'} v v' h = by_year (ltb y y') refl
  where
    by_year : (t : Bool) → ltb y y' ≡ t → number y m d < number y' m' d'
    by_year true e = later_year v v' (ltb-true y y' e)
    by_year false e =
        let no-later : y' ≤ y = ltb-false y y' e in
        let alike : y' ≡ y = omega (arith, day_small v', v'.month_high) in
        rw alike (same_year_lem v (rw alike at v') (rw alike at h))

-- the lower of two dates has the lower day number
pub rising : (d e : ℕ) → date_exists d ≡ true → date_exists e ≡ true → d < e → day_number d < day_number e
rising d e p q h =
    let lower : written (year_of d) (month_of d) (day_of d) < written (year_of e) (month_of e) (day_of e) =
    rw (← whole d, ← whole e) h in
    rw (number-of d, number-of e) (rise (valid d p) (valid e q) lower)

module _ (d e : ℕ) (p : date_exists d ≡ true) (q : date_exists e ≡ true) where
  pub rising_back : day_number d < day_number e → d < e
  rising_back h = by_order (ltb d e) refl (ltb e d) refl
    where
      by_order : (s : Bool) → ltb d e ≡ s → (t : Bool) → ltb e d ≡ t → d < e
      by_order true f t g = ltb-true d e f
      by_order false f true g = absurd (omega (arith, rising e d q p (ltb-true e d g)))
      by_order false f false g =
          let alike : d ≡ e = omega (arith, ltb-false d e f, ltb-false e d g) in
          absurd (omega (arith, ap day_number alike))

  pub same_number : day_number d ≡ day_number e → d ≡ e
  same_number h = by_order (ltb d e) refl (ltb e d) refl
    where
      by_order : (s : Bool) → ltb d e ≡ s → (t : Bool) → ltb e d ≡ t → d ≡ e
      by_order true f t g = absurd (omega (arith, rising d e p q (ltb-true d e f)))
      by_order false f true g = absurd (omega (arith, rising e d q p (ltb-true e d g)))
      by_order false f false g = omega (arith, ltb-false d e f, ltb-false e d g)

pub day_number_below : (d : ℕ) → date_exists d ≡ true → day_number d < 4000000
day_number_below d p = rw (number-of d) (number_small (valid d p))
