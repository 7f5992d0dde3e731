-- The 18 groups of type, kind and period: RULES, "Movements and the book".
-- Assumes nothing.
use Rattle.std.specs.Prelude.{ℕ, ◌+◌, ◌*◌, ◌%◌}
use Rattle.movement.specs.declared.aircraft.Aircraft.{Aircraft}
use Rattle.movement.specs.declared.kind.Kind.{Kind}
use Rattle.movement.specs.declared.period.Period.{Period}
use Rattle.movement.specs.Aircraft.{aircraft_number, aircraft_numbered}
use Rattle.movement.specs.Kind.{kind_number, kind_numbered}
use Rattle.movement.specs.Period.{period_of, period_number, period_numbered}

-- 6·type + 3·kind + period
unfoldable pub group_number : Aircraft → Kind → Period → ℕ
group_number a k p = 6 * aircraft_number a + 3 * kind_number k + period_number p

-- the group of a movement, from the numbers of its type and kind and its second of the day
unfoldable pub group_of : ℕ → ℕ → ℕ → ℕ
group_of type kind second = group_number (aircraft_numbered type) (kind_numbered kind) (period_of second)

-- the period of the movements of a group
unfoldable pub group_period : ℕ → Period
group_period g = period_numbered (g % 3)
