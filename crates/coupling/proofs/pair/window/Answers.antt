-- `coupling::pair::window` meets its contract: aeroplanes and helicopters, circuits or not. Assumes nothing.
use Rattle.std.proofs.Common.{arith}
use Rattle.std.proofs.lemmas.Bool.Decides.{nat_tests}
use Rattle.coupling_rules.specs.Rule.{takes_none}
use Rattle.coupling.proofs.pair.window.Goals as goal

pub returns-in-0-eq0 : goal.returns-in-0-eq0
unfolding takes_none
returns-in-0-eq0 c = grind (arith, nat_tests)

pub returns-in-0-default : goal.returns-in-0-default
unfolding takes_none
returns-in-0-default c = grind (arith, nat_tests)

pub returns-in_default : goal.returns-in_default
unfolding takes_none
returns-in_default c = grind (arith, nat_tests)
