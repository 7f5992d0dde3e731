-- `register::row::line_layout` meets its contract: its tests are those of `cells_layout`. Assumes nothing.
use Rattle.std.proofs.Common.{arith}
use Rattle.std.proofs.lemmas.Bool.Decides.{nat_tests}
use Rattle.std.proofs.lemmas.Grind.{common_steps}
use Rattle.register.specs.Row.{cells_layout}
use Rattle.register.proofs.row.line_layout.Goals as goal

pub returns-in-0 : goal.returns-in-0
unfolding cells_layout
returns-in-0 c = grind (arith, common_steps, nat_tests)

pub returns-in_default : goal.returns-in_default
unfolding cells_layout
returns-in_default c = grind (arith, common_steps, nat_tests)

pub returns-in_default-2 : goal.returns-in_default-2
unfolding cells_layout
returns-in_default-2 c = grind (arith, common_steps, nat_tests)
