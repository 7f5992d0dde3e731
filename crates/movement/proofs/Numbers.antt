-- The rules' numbers of types, kinds, periods and groups: a number in range and its case name each other, and a group
-- is below 18. Assumes nothing.
use Rattle.std.specs.Prelude.{◌≡◌, ℕ, zero, suc, ◌+◌, ◌*◌, ◌%◌, ◌<◌}
use mathlib.Core.Path.{refl, ap, ◌∙◌}
use native.Mathlib.Omega.{arith}
use Rattle.movement.specs.declared.aircraft.Aircraft.{Aircraft}
use Rattle.movement.specs.declared.aircraft.Aircraft.TheVariants.{Large, Small, Helicopter}
use Rattle.movement.specs.declared.kind.Kind.{Kind}
use Rattle.movement.specs.declared.kind.Kind.TheVariants.{Start, Landing}
use Rattle.movement.specs.declared.period.Period.{Period}
use Rattle.movement.specs.declared.period.Period.TheVariants.{Day, Evening, Night}
use Rattle.movement.specs.Limits.{type_count, kind_count, group_count}
use Rattle.movement.specs.Aircraft.{aircraft_number, aircraft_numbered}
use Rattle.movement.specs.Kind.{kind_number, kind_numbered}
use Rattle.movement.specs.Period.{period_of, period_number, period_numbered}
use Rattle.movement.specs.Group.{group_number, group_of, group_period}

-- each case's number is in range
pub aircraft_below : (a : Aircraft) → aircraft_number a < type_count
aircraft_below Large = omega arith
aircraft_below Small = omega arith
aircraft_below Helicopter = omega arith

pub kind_below : (k : Kind) → kind_number k < kind_count
kind_below Start = omega arith
kind_below Landing = omega arith

pub period_below : (p : Period) → period_number p < 3
period_below Day = omega arith
period_below Evening = omega arith
period_below Night = omega arith

-- the case of a number in range has that number
pub aircraft_number_lem : (n : ℕ) → n < type_count → aircraft_number (aircraft_numbered n) ≡ n
aircraft_number_lem zero h = refl
aircraft_number_lem (suc zero) h = refl
aircraft_number_lem (suc (suc zero)) h = refl
aircraft_number_lem (suc (suc (suc n))) h = absurd (omega arith)

pub kind_number_lem : (n : ℕ) → n < kind_count → kind_number (kind_numbered n) ≡ n
kind_number_lem zero h = refl
kind_number_lem (suc zero) h = refl
kind_number_lem (suc (suc n)) h = absurd (omega arith)

-- the period of a period's number is that period
pub period_numbered_lem : (p : Period) → period_numbered (period_number p) ≡ p
period_numbered_lem Day = refl
period_numbered_lem Evening = refl
period_numbered_lem Night = refl

-- there are 18 groups
pub group_below : (a : Aircraft) (k : Kind) (p : Period) → group_number a k p < group_count
unfolding group_number
group_below a k p = omega (arith, aircraft_below a, kind_below k, period_below p)

-- 6·type + 3·kind + period, from the numbers of type and kind and the second of the day
pub group_of_lem : (type kind second : ℕ) → type < type_count → kind < kind_count
    → group_of type kind second ≡ 6 * type + 3 * kind + period_number (period_of second)
unfolding group_of group_number
group_of_lem type kind second a b = rw (aircraft_number_lem type a, kind_number_lem kind b) refl

-- the group and the weight of a movement go by one period
pub group_period_lem : (type kind second : ℕ) → group_period (group_of type kind second) ≡ period_of second
unfolding group_period group_of group_number
group_period_lem type kind second =
    let p = period_of second in
    let below = period_below p in
    ap period_numbered {x = group_number (aircraft_numbered type) (kind_numbered kind) p % 3} {y = period_number p}
    (omega arith)
    ∙ period_numbered_lem p
