-- `register::write::write_fault` meets its contract: its tests are those of `write_fault`. Assumes nothing.
use Rattle.std.proofs.Common.{arith}
use Rattle.std.proofs.lemmas.Bool.Decides.{nat_tests}
use Rattle.std.proofs.lemmas.Grind.{common_steps}
use Rattle.register.specs.Write.{write_fault}
use Rattle.register.proofs.write.write_fault.Goals as goal

pub returns-then-not-points_fit : goal.returns-then-not-points_fit
unfolding write_fault
returns-then-not-points_fit c = grind (arith, common_steps, nat_tests)

pub returns : goal.returns
unfolding write_fault
returns c = grind (arith, common_steps, nat_tests)
