-- The dates worked by hand come out so. Assumes nothing.
use Prim.Native.Nat.{ℕ, ◌+◌, ◌-◌}
use mathlib.Core.Path.{◌≡◌, refl, sym, ap, ◌∙◌}
use Rattle.date.specs.Calendar.{leap_day, month_length, date_exists, first_months, day_number}
use Rattle.date.specs.Calendar.{year_of, month_of, day_of}
use Rattle.date.specs.Worked.{AllHold, cases}
use Rattle.date.proofs.Years.{formula, before_formula}

-- the day number by the formula, which is quick to work out
abbrev quick : ℕ → ℕ
quick date = formula (year_of date) + first_months (year_of date) (month_of date - 1) + day_of date

by_formula : (date : ℕ) → day_number date ≡ quick date
unfolding day_number
by_formula date =
    ap (λ n. n + first_months (year_of date) (month_of date - 1) + day_of date) (before_formula (year_of date))

days_between_lem : (from to many : ℕ) → quick to ≡ quick from + many → day_number to ≡ day_number from + many
days_between_lem from to many e = by_formula to ∙ e ∙ ap (λ n. n + many) (sym (by_formula from))

-- one case more
also : {A B : Type 0} → A → B → A × B
also one rest = (one, rest)

pub all_hold : AllHold cases
unfolding date_exists month_length leap_day first_months
all_hold =
    also refl
    (also refl
    (also refl
    (also refl
    (also refl
    (also refl
    (also refl
    (also refl
    (also (days_between_lem 20260331 20260401 1 refl)
    (also (days_between_lem 20231231 20240101 1 refl)
    (also (days_between_lem 19000101 99991231 2958463 refl) tt))))))))))
