-- `date::month_length` meets its contract, arm by arm. Assumes nothing.
use Rattle.std.proofs.Common.{rules, arith}
use Rattle.std.proofs.lemmas.Bool.Decides.{nat_tests}
use Rattle.date.specs.Calendar.{month_length}
use Rattle.date.proofs.Years.{leap_at_most}
use Rattle.date.proofs.month_length.Goals as goal

pub overflow_add-result : goal.overflow_add-result
overflow_add-result c = omega (arith, leap_at_most c.args.y)

pub returns-in-2 : goal.returns-in-2
unfolding month_length
returns-in-2 c = search rules

pub returns-in-4 : goal.returns-in-4
unfolding month_length
returns-in-4 c = grind (arith, nat_tests)

pub returns-in_default : goal.returns-in_default
unfolding month_length
returns-in_default c = grind (arith, nat_tests)
