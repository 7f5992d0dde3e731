-- `coupling::turn::nearer` meets its contract: each arm is one of the definition's. Assumes nothing.
use Rattle.std.proofs.Common.{arith}
use Rattle.std.proofs.lemmas.Bool.Decides.{nat_tests}
use Rattle.coupling_rules.specs.InnerSides.{nearer}
use Rattle.coupling.proofs.turn.nearer.Goals as goal

pub returns-in-None-None : goal.returns-in-None-None
unfolding nearer
returns-in-None-None c = grind (arith, nat_tests)

pub returns-in-None-Some : goal.returns-in-None-Some
unfolding nearer
returns-in-None-Some c = grind (arith, nat_tests)

pub returns-in-Some-Some : goal.returns-in-Some-Some
unfolding nearer
returns-in-Some-Some c = grind (arith, nat_tests)

pub returns-in-Some-default : goal.returns-in-Some-default
unfolding nearer
returns-in-Some-default c = grind (arith, nat_tests)

pub returns-in-Some-default-2 : goal.returns-in-Some-default-2
unfolding nearer
returns-in-Some-default-2 c = grind (arith, nat_tests)
