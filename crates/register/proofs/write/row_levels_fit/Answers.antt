-- `register::write::row_levels_fit` meets its contract: its tests are those of `row_levels_fit`. Assumes nothing.
use Rattle.std.proofs.Common.{arith}
use Rattle.std.proofs.lemmas.Bool.Decides.{nat_tests}
use Rattle.std.proofs.lemmas.Grind.{common_steps}
use Rattle.register.specs.Write.{row_levels_fit}
use Rattle.register.proofs.write.row_levels_fit.Goals as goal

pub returns-then-mark-ne0 : goal.returns-then-mark-ne0
unfolding row_levels_fit
returns-then-mark-ne0 c = grind (arith, common_steps, nat_tests)

pub returns-else-mark-ne0 : goal.returns-else-mark-ne0
unfolding row_levels_fit
returns-else-mark-ne0 c = grind (arith, common_steps, nat_tests)

pub returns-else-levels_fit : goal.returns-else-levels_fit
unfolding row_levels_fit
returns-else-levels_fit c = grind (arith, common_steps, nat_tests)
