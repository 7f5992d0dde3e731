use mathlib.Core.Path.{◌≡◌, ap}
use Prim.Native.Nat.{◌-◌, ◌/◌, ◌%◌}
use native.Mathlib.Omega.{arith}
use Rattle.date.specs.Calendar.{first_months, day_number}
use Rattle.date.proofs.Years.{before_at_most, month_at_most, months_at_most, months_more}
use Rattle.date.proofs.day_number.Goals as goal

pub loop-k-init : goal.loop-k-init
unfolding first_months
loop-k-init c = (omega arith, omega arith)

pub overflow_add-days : goal.overflow_add-days
overflow_add-days c =
    let y = c.args.date / 10000 in
    let k = c.loop-k.k in
    omega (arith, before_at_most y, months_at_most y (k - 1), month_at_most y k)

pub loop-k-preserved : goal.loop-k-preserved
loop-k-preserved c = grind (arith, months_more)

pub overflow_add-result : goal.overflow_add-result
overflow_add-result c =
    let y = c.args.date / 10000 in
    let k = c.loop-k.k in
    omega (arith, before_at_most y, months_at_most y (k - 1))

pub returns : goal.returns
unfolding day_number
returns c =
    let e : c.loop-k.k - 1 ≡ c.args.date / 100 % 100 - 1 = omega arith in
    omega (arith, ap (first_months (c.args.date / 10000)) e)
