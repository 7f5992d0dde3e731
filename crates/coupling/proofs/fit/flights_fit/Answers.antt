-- `coupling::fit::flights_fit` meets its contract: the shape, and then the values. Assumes nothing.
use Rattle.std.proofs.Common.{arith}
use Rattle.coupling_rules.specs.Refusals.{flights_fit}
use Rattle.coupling.proofs.fit.flights_fit.Goals as goal

pub returns-then-shape_fits : goal.returns-then-shape_fits
unfolding flights_fit
returns-then-shape_fits c = grind arith

pub returns-else-shape_fits : goal.returns-else-shape_fits
unfolding flights_fit
returns-else-shape_fits c = grind arith
