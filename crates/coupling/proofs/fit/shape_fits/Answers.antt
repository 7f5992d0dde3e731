-- `coupling::fit::shape_fits` meets its contract: each test is one of the definition's. Assumes nothing.
use Rattle.std.proofs.Common.{arith}
use Rattle.std.proofs.lemmas.Bool.Decides.{nat_tests}
use Rattle.coupling_rules.specs.Refusals.{shape_fits}
use Rattle.coupling.proofs.fit.shape_fits.Goals as goal

pub returns-then-n-le-MAX_FLIGHTS : goal.returns-then-n-le-MAX_FLIGHTS
unfolding shape_fits
returns-then-n-le-MAX_FLIGHTS c = grind (arith, nat_tests)

pub returns-else-n-le-MAX_FLIGHTS : goal.returns-else-n-le-MAX_FLIGHTS
unfolding shape_fits
returns-else-n-le-MAX_FLIGHTS c = grind (arith, nat_tests)
