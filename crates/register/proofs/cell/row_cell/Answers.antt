-- `register::cell::row_cell` meets its contract: each column by its own reader. Assumes nothing.
use Rattle.std.proofs.Common.{arith}
use Rattle.std.proofs.lemmas.Bool.Decides.{nat_tests}
use Rattle.std.proofs.lemmas.Grind.{common_steps}
use Rattle.register.specs.Cell.{row_cell}
use Rattle.register.proofs.cell.row_cell.Goals as goal

pub returns-in-0 : goal.returns-in-0
unfolding row_cell
returns-in-0 c = grind (arith, common_steps, nat_tests)

pub returns-in-1 : goal.returns-in-1
unfolding row_cell
returns-in-1 c = grind (arith, common_steps, nat_tests)

pub returns-in-3 : goal.returns-in-3
unfolding row_cell
returns-in-3 c = grind (arith, common_steps, nat_tests)

pub returns-in-4 : goal.returns-in-4
unfolding row_cell
returns-in-4 c = grind (arith, common_steps, nat_tests)

pub returns-in_default : goal.returns-in_default
unfolding row_cell
returns-in_default c = grind (arith, common_steps, nat_tests)
