-- `text::number::whole` meets its contract: its tests are those of `whole_of`. Assumes nothing.
use Rattle.std.proofs.Common.{arith}
use Rattle.std.proofs.lemmas.Bool.Decides.{nat_tests}
use Rattle.std.proofs.lemmas.Grind.{common_steps}
use Rattle.text.specs.Number.{whole_of}
use Rattle.text.proofs.number.whole.Goals as goal

pub returns-then-is_empty : goal.returns-then-is_empty
unfolding whole_of
returns-then-is_empty c = grind (arith, common_steps, nat_tests)

pub returns-then-s-eq48 : goal.returns-then-s-eq48
unfolding whole_of
returns-then-s-eq48 c = grind (arith, common_steps, nat_tests)

pub returns : goal.returns
unfolding whole_of
returns c = grind (arith, common_steps, nat_tests)
