-- A date exists exactly if the calendar has it: months by look-up, leap years by their rule. Assumes nothing.
use mathlib.Core.{Path.◌≡◌, Path.refl, Path.sym, Path.ap, Path.◌∙◌, Bool.Bool, Bool.true, Bool.false, Bool.cond}
use mathlib.Core.{Logic.◌↔◌, Logic.inl, Logic.inr, List.List, List.[], List.◌∷◌}
use Prim.Native.Nat.{ℕ, zero, suc, ◌+◌, ◌-◌, ◌≤◌, ◌<◌}
use native.Mathlib.Omega.{arith}
use lib.{Dec.eqb, Dec.leb, ListN.get_or}
use borrow.Author.Tests.{eqb-true, eqb-false, ne_eqb, leb-true, leb-false}
use Rattle.date.specs.Calendar.{leap_day, of_thirty, month_length, date_exists, year_of, month_of, day_of}
use Rattle.date.specs.Promises.{lengths, HasDay, OnCalendar}
use Rattle.date.proofs.{Leaps.day_rule, Leaps.rule_day_lem, Years.leap_at_most}
use Rattle.date.proofs.Dates.{Valid, whole, valid, exists}

february : (y : ℕ) → month_length y 2 ≡ 28 + leap_day y
unfolding month_length
february y = refl

-- a month's days where the year is no leap year, and those of the n months from k on
abbrev usual : ℕ → ℕ
usual m = cond (eqb m 2) 28 (cond (of_thirty m) 30 31)

listed : ℕ → ℕ → List ℕ
listed k zero = []
listed k (suc n) = usual k ∷ listed (k + 1) n

listed_at : (k n i : ℕ) → i < n → get_or (listed k n) i 0 ≡ usual (k + i)
unfolding listed
listed_at k zero i h = absurd (omega arith)
listed_at k (suc n) zero h = let e : k ≡ k + 0 = omega arith in ap usual e
listed_at k (suc n) (suc i) h =
    let e : k + 1 + i ≡ k + suc i = omega arith in listed_at (k + 1) n i (omega arith) ∙ ap usual e

looked_up_lem : (m : ℕ) → 1 ≤ m → m ≤ 12 → usual m ≡ get_or lengths (m - 1) 0
unfolding listed
looked_up_lem m low high =
    let e : 1 + (m - 1) ≡ m = omega arith in
    let all : listed 1 12 ≡ lengths = refl in
    ap usual (sym e) ∙ sym (listed_at 1 12 (m - 1) (omega arith)) ∙ ap (λ (l : List ℕ). get_or l (m - 1) 0) all

any_other : (y m : ℕ) → 1 ≤ m → m ≤ 12 → (m ≡ 2 → ⊥) → month_length y m ≡ get_or lengths (m - 1) 0
unfolding month_length
any_other y m low high other =
    let same : cond (eqb m 2) (28 + leap_day y) (cond (of_thirty m) 30 31) ≡ usual m = rw (ne_eqb m 2 other) in
    same ∙ looked_up_lem m low high

has_day : {y m d : ℕ} → Valid y m d → HasDay y m d
has_day {y} {m} {d} v = by_month (eqb m 2) refl
  where
    in_february : (t : Bool) → leb d 28 ≡ t → d ≤ month_length y 2 → HasDay y 2 d
    in_february true e h = inl (leb-true d 28 e)
    in_february false e h =
        let past : 28 < d = leb-false d 28 e in
        let one : leap_day y ≡ 1 = omega (arith, february y, leap_at_most y) in
        inr (refl, omega (arith, february y, leap_at_most y), day_rule y one)

    by_month : (t : Bool) → eqb m 2 ≡ t → HasDay y m d
    by_month true e =
        let two : m ≡ 2 = eqb-true m 2 e in
        rw two (in_february (leb d 28) refl (rw two at v.day_high))
    by_month false e =
        inl (omega (arith, v.day_high, any_other y m v.month_low v.month_high (eqb-false m 2 e)))

day_fits : (y : ℕ) {m d : ℕ} → 1 ≤ m → m ≤ 12 → HasDay y m d → d ≤ month_length y m
day_fits y {m} {d} low high (inl h) = by_month (eqb m 2) refl
  where
    by_month : (t : Bool) → eqb m 2 ≡ t → d ≤ month_length y m
    by_month true e =
        let two : m ≡ 2 = eqb-true m 2 e in
        let twenty-eight : d ≤ 28 = rw two at h in
        rw two (omega (arith, february y))
    by_month false e = omega (arith, any_other y m low high (eqb-false m 2 e))
day_fits y low high (inr (two, last, l)) = rw (two, last) (omega (arith, february y, rule_day_lem y l))

pub exists_exactly : (date : ℕ) → date_exists date ≡ true ↔ OnCalendar date
exists_exactly date = (
  λ e.
      let v = valid date e in
      record {
        year = year_of date;
        month = month_of date;
        day = day_of date;
        written = whole date;
        years = (v.year_low, v.year_high);
        months = (v.month_low, v.month_high);
        days = (v.day_low, has_day v);
      },
  λ c.
      let v : Valid c.year c.month c.day =
      record {
        year_low = c.years.0;
        year_high = c.years.1;
        month_low = c.months.0;
        month_high = c.months.1;
        day_low = c.days.0;
        day_high = day_fits c.year c.months.0 c.months.1 c.days.1;
      } in
      ap date_exists c.written ∙ exists v,
)
