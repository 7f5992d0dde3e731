-- `date::day_number` meets its contract: at month k the days are those of all years before and of the first k - 1
-- months. Assumes nothing.
use mathlib.Core.Path.{◌≡◌}
use Prim.Native.Nat.{◌+◌, ◌-◌, ◌≤◌, max}
use Rattle.date.specs.Calendar.{first_months, before_year}
use Rattle.date.proofs.day_number.Given as goal

abbrev pub invariant-loop-k : goal.invariant-loop-k
invariant-loop-k l = (l.k ≤ max l.m 1) × (l.days ≡ before_year l.y + first_months l.y (l.k - 1))
