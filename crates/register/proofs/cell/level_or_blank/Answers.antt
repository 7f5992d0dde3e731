-- `register::cell::level_or_blank` meets its contract. Assumes nothing.
use Rattle.std.proofs.Common.{arith}
use Rattle.std.proofs.lemmas.Bool.Decides.{nat_tests}
use Rattle.std.proofs.lemmas.Grind.{common_steps}
use Rattle.register.specs.Cell.{level_or_blank}
use Rattle.register.proofs.cell.level_or_blank.Goals as goal

pub returns-then-is_empty : goal.returns-then-is_empty
unfolding level_or_blank
returns-then-is_empty c = grind (arith, common_steps, nat_tests)

pub returns-else-is_empty : goal.returns-else-is_empty
unfolding level_or_blank
returns-else-is_empty c = grind (arith, common_steps, nat_tests)
