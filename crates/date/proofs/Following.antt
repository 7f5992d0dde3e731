-- Every date but the last has a next one, a day on: in the month, in the next month or in the next year. That none lies
-- between follows from the day numbers, which rise. Assumes nothing.
use mathlib.Core.{Path.◌≡◌, Path.refl, Path.sym, Path.ap, Path.◌∙◌, Bool.Bool, Bool.true, Bool.false}
use Prim.Native.Nat.{ℕ, suc, ◌+◌, ◌-◌, ◌≤◌, ◌<◌}
use native.Mathlib.Omega.{arith}
use lib.Dec.{ltb, leb}
use borrow.Author.Tests.{ltb-true, ltb-false, leb-true, leb-false}
use Rattle.date.specs.Calendar.{month_length, date_exists, before_year, first_months, day_number}
use Rattle.date.specs.Calendar.{year_of, month_of, day_of}
use Rattle.date.specs.Promises.{Next}
use Rattle.date.proofs.Years.{month_at_least, months_more, twelve}
use Rattle.date.proofs.Dates.{Valid, written, whole, valid, exists, number, written-number}
use Rattle.date.proofs.Rising.{rising, rising_back}

module _ {y m d y' m' d' : ℕ} (v : Valid y m d) (v' : Valid y' m' d')
    (one : number y' m' d' ≡ number y m d + 1) where
  one_more : day_number (written y' m' d') ≡ day_number (written y m d) + 1
  one_more = written-number v' ∙ one ∙ ap (λ n. n + 1) (sym (written-number v))

  none_between : (other : ℕ) → date_exists other ≡ true → written y m d < other
      → (t : Bool) → leb (written y' m' d') other ≡ t → written y' m' d' ≤ other
  none_between other o l true e = leb-true (written y' m' d') other e
  none_between other o l false e =
      absurd (omega (
        arith,
        one_more,
        rising (written y m d) other (exists v) o l,
        rising other (written y' m' d') o (exists v') (leb-false (written y' m' d') other e),
      ))

  next_at_rule : Next (written y m d) (written y' m' d')
  next_at_rule = record {
    exists = exists v';
    later = rising_back (written y m d) (written y' m' d') (exists v) (exists v') (omega (arith, one_more));
    none_between = λ other o l. none_between other o l (leb (written y' m' d') other) refl;
    one_more = one_more;
  }

-- One day more in each of the three

day_on : (y m d : ℕ) → number y m (d + 1) ≡ number y m d + 1
unfolding number
day_on y m d = omega arith

month_on : (y m d : ℕ) → 1 ≤ m → d ≡ month_length y m → number y (m + 1) 1 ≡ number y m d + 1
unfolding number
month_on y m d h e =
    let f : m + 1 - 1 ≡ m = omega arith in omega (arith, ap (first_months y) f, months_more y m h)

year_on : (y m d : ℕ) → m ≡ 12 → d ≡ month_length y m → number (y + 1) 1 1 ≡ number y m d + 1
unfolding number before_year first_months
year_on y m d h e =
    let f : y + 1 ≡ suc y = omega arith in
    omega (arith, ap before_year f, months_more y m (omega arith), ap (first_months y) h, twelve y)

december : (y m : ℕ) → m ≡ 12 → month_length y m ≡ 31
unfolding month_length
december y m h = rw h

module _ {y m d : ℕ} (v : Valid y m d) (not_last : written y m d ≡ 99991231 → ⊥) where
  in_month : d < month_length y m → (next : ℕ) × Next (written y m d) next
  in_month h =
      let v' : Valid y m (d + 1) =
      record {
        year_low = v.year_low;
        year_high = v.year_high;
        month_low = v.month_low;
        month_high = v.month_high;
        day_low = omega arith;
        day_high = omega arith;
      } in
      (written y m (d + 1), next_at_rule v v' (day_on y m d))

  to_month : d ≡ month_length y m → m < 12 → (next : ℕ) × Next (written y m d) next
  to_month e h =
      let v' : Valid y (m + 1) 1 =
      record {
        year_low = v.year_low;
        year_high = v.year_high;
        month_low = omega arith;
        month_high = omega arith;
        day_low = omega arith;
        day_high = omega (arith, month_at_least y (m + 1));
      } in
      (written y (m + 1) 1, next_at_rule v v' (month_on y m d v.month_low e))

  to_year : d ≡ month_length y m → m ≡ 12 → y < 9999 → (next : ℕ) × Next (written y m d) next
  to_year e f h =
      let v' : Valid (y + 1) 1 1 =
      record {
        year_low = omega (arith, v.year_low);
        year_high = omega arith;
        month_low = omega arith;
        month_high = omega arith;
        day_low = omega arith;
        day_high = omega (arith, month_at_least (y + 1) 1);
      } in
      (written (y + 1) 1 1, next_at_rule v v' (year_on y m d f e))

  full : ltb d (month_length y m) ≡ false → d ≡ month_length y m
  full e = omega (arith, v.day_high, ltb-false d (month_length y m) e)

  not_last_year : d ≡ month_length y m → m ≡ 12 → (t : Bool) → ltb y 9999 ≡ t → y < 9999
  not_last_year e f true g = ltb-true y 9999 g
  not_last_year e f false g =
      let last : y ≡ 9999 = omega (arith, v.year_high, ltb-false y 9999 g) in
      absurd (not_last (omega (arith, december y m f)))

  next_of : (s t : Bool) → ltb d (month_length y m) ≡ s → ltb m 12 ≡ t
      → (next : ℕ) × Next (written y m d) next
  next_of true t e f = in_month (ltb-true d (month_length y m) e)
  next_of false true e f = to_month (full e) (ltb-true m 12 f)
  next_of false false e f =
      let twelfth : m ≡ 12 = omega (arith, v.month_high, ltb-false m 12 f) in
      to_year (full e) twelfth (not_last_year (full e) twelfth (ltb y 9999) refl)

pub following : (date : ℕ) → date_exists date ≡ true → (date ≡ 99991231 → ⊥)
    → (next : ℕ) × Next date next
following date e not_last =
    let y = year_of date in
    let m = month_of date in
    rw (whole date)
    (next_of (valid date e) (λ h. not_last (whole date ∙ h))
    (ltb (day_of date) (month_length y m)) (ltb m 12) refl refl)
