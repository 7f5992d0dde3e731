-- `register::cell::cell` meets its contract. Assumes nothing.
use Rattle.std.proofs.Common.{arith}
use Rattle.std.proofs.lemmas.Bool.Decides.{nat_tests}
use Rattle.std.proofs.lemmas.Grind.{common_steps}
use Rattle.register.specs.Cell.{limits_cell}
use Rattle.register.proofs.cell.cell.Goals as goal

pub returns-then-k-eq0 : goal.returns-then-k-eq0
unfolding limits_cell
returns-then-k-eq0 c = grind (arith, common_steps, nat_tests)

pub returns-else-k-eq0 : goal.returns-else-k-eq0
unfolding limits_cell
returns-else-k-eq0 c = grind (arith, common_steps, nat_tests)
