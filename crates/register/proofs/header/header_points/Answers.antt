-- `register::header::header_points` meets its contract: its tests are those of `header_of`. Assumes nothing.
use Rattle.std.proofs.Common.{arith}
use Rattle.std.proofs.lemmas.Bool.Decides.{nat_tests}
use Rattle.std.proofs.lemmas.Grind.{common_steps}
use Rattle.text.proofs.Sames.{same_pointwise}
use Rattle.register.specs.Header.{header_of}
use Rattle.register.proofs.header.header_points.Goals as goal

pub returns-then-n-lead : goal.returns-then-n-lead
unfolding header_of
returns-then-n-lead c = grind (arith, common_steps, nat_tests)

pub returns-then-starts_with : goal.returns-then-starts_with
unfolding header_of
returns-then-starts_with c = grind (arith, common_steps, nat_tests, same_pointwise)

pub returns-else-points-le-MAX_POINTS : goal.returns-else-points-le-MAX_POINTS
unfolding header_of
returns-else-points-le-MAX_POINTS c = grind (arith, common_steps, nat_tests, same_pointwise)
