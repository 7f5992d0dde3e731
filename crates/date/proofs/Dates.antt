-- A date as its year, month and day, and back: it exists exactly if these are in range, and its day number is theirs.
-- Assumes nothing.
use mathlib.Core.{Path.◌≡◌, Path.refl, Bool.Bool, Bool.true, Bool.false, Bool.◌&&◌, Bool.false≢true}
use Prim.Native.Nat.{ℕ, ◌+◌, ◌*◌, ◌-◌, ◌≤◌, ◌<◌}
use native.Mathlib.Omega.{arith}
use borrow.Author.Tests.{leb-true, le-leb}
use Rattle.date.specs.Limits.{min_year, max_year}
use Rattle.date.specs.Calendar.{month_length, date_exists, before_year, first_months, day_number}
use Rattle.date.specs.Calendar.{year_of, month_of, day_of}
use Rattle.date.proofs.Years.{month_at_most, months_at_most, before_at_most}

pub record Valid (y m d : ℕ) : Type 0 where
  pub year_low : 1900 ≤ y
  pub year_high : y ≤ 9999
  pub month_low : 1 ≤ m
  pub month_high : m ≤ 12
  pub day_low : 1 ≤ d
  pub day_high : d ≤ month_length y m

abbrev pub written : ℕ → ℕ → ℕ → ℕ
written y m d = y * 10000 + m * 100 + d

pub whole : (date : ℕ) → date ≡ written (year_of date) (month_of date) (day_of date)
whole date = omega arith

-- the parts of a date that is put together
written_year : (y m d : ℕ) → m < 100 → d < 100 → year_of (written y m d) ≡ y
written_year y m d h k = omega arith

written_month : (y m d : ℕ) → m < 100 → d < 100 → month_of (written y m d) ≡ m
written_month y m d h k = omega arith

written_day : (y m d : ℕ) → m < 100 → d < 100 → day_of (written y m d) ≡ d
written_day y m d h k = omega arith

both : (a b : Bool) → (a && b) ≡ true → (a ≡ true) × (b ≡ true)
both true b e = (refl, e)
both false b e = absurd (false≢true e)

pub valid : (date : ℕ) → date_exists date ≡ true → Valid (year_of date) (month_of date) (day_of date)
unfolding date_exists
valid date e =
    let day = both _ _ e in
    let day-least = both _ _ day.0 in
    let month = both _ _ day-least.0 in
    let month-least = both _ _ month.0 in
    let year = both _ _ month-least.0 in
    record {
      year_low = leb-true min_year (year_of date) year.0;
      year_high = leb-true (year_of date) max_year year.1;
      month_low = leb-true 1 (month_of date) month-least.1;
      month_high = leb-true (month_of date) 12 month.1;
      day_low = leb-true 1 (day_of date) day-least.1;
      day_high = leb-true (day_of date) (month_length (year_of date) (month_of date)) day.1;
    }

module _ {y m d : ℕ} (v : Valid y m d) where
  month_small : m < 100
  month_small = omega (arith, v.month_high)

  pub day_small : d ≤ 31
  day_small = omega (arith, v.day_high, month_at_most y m)

  pub exists : date_exists (written y m d) ≡ true
  unfolding date_exists
  exists =
      let k : d < 100 = omega (arith, day_small) in
      rw (
        written_year y m d month_small k,
        written_month y m d month_small k,
        written_day y m d month_small k,
        le-leb min_year y v.year_low,
        le-leb y max_year v.year_high,
        le-leb 1 m v.month_low,
        le-leb m 12 v.month_high,
        le-leb 1 d v.day_low,
        le-leb d (month_length y m) v.day_high,
      )

-- the day number of a year, a month and a day
unfoldable pub number : ℕ → ℕ → ℕ → ℕ
number y m d = before_year y + first_months y (m - 1) + d

pub number-of : (date : ℕ) → day_number date ≡ number (year_of date) (month_of date) (day_of date)
unfolding day_number number
number-of date = refl

pub written-number : {y m d : ℕ} → Valid y m d → day_number (written y m d) ≡ number y m d
unfolding day_number number
written-number {y} {m} {d} v =
    let k : d < 100 = omega (arith, day_small v) in
    rw (
      written_year y m d (month_small v) k,
      written_month y m d (month_small v) k,
      written_day y m d (month_small v) k,
    )

pub number_small : {y m d : ℕ} → Valid y m d → number y m d < 4000000
unfolding number
number_small {y} {m} {d} v =
    omega (arith, before_at_most y, months_at_most y (m - 1), day_small v, v.year_high, v.month_high)
