-- `movement::inner::number_of` meets its contract: each number is below its count, so the sum fits. Assumes nothing.
use native.Mathlib.Omega.{arith}
use Rattle.movement.specs.Group.{group_number}
use Rattle.movement.proofs.Numbers.{aircraft_below, kind_below, period_below}
use Rattle.movement.proofs.inner.number_of.Goals as goal

pub overflow_add-result : goal.overflow_add-result
overflow_add-result c =
    omega (arith, aircraft_below c.args.aircraft, kind_below c.args.kind)

pub overflow_add-result-2 : goal.overflow_add-result-2
overflow_add-result-2 c =
    let a = c.args in
    omega (arith, aircraft_below a.aircraft, kind_below a.kind, period_below a.period)

pub overflow_mul-result : goal.overflow_mul-result
overflow_mul-result c = omega (arith, aircraft_below c.args.aircraft)

pub overflow_mul-result-2 : goal.overflow_mul-result-2
overflow_mul-result-2 c = omega (arith, kind_below c.args.kind)

pub returns : goal.returns
returns c = unfold group_number in omega arith
