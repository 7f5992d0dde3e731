-- `register::row::row_refusal` meets its contract: its tests are those of `row_refusal`. Assumes nothing.
use Rattle.std.proofs.Common.{arith}
use Rattle.std.proofs.lemmas.Bool.Decides.{nat_tests}
use Rattle.std.proofs.lemmas.Grind.{common_steps}
use Rattle.register.specs.Row.{row_refusal}
use Rattle.register.proofs.row.row_refusal.Goals as goal

pub returns-in_err-fault : goal.returns-in_err-fault
unfolding row_refusal
returns-in_err-fault c = grind (arith, common_steps, nat_tests)

pub returns-then-room-points : goal.returns-then-room-points
unfolding row_refusal
returns-then-room-points c = grind (arith, common_steps, nat_tests)

pub returns : goal.returns
unfolding row_refusal
returns c = grind (arith, common_steps, nat_tests)
