-- `coupling::fit::movements_fit` meets its contract: the flights, and then the circuits. Assumes nothing.
use Rattle.std.proofs.Common.{arith}
use Rattle.coupling_rules.specs.Refusals.{movements_fit}
use Rattle.coupling.proofs.fit.movements_fit.Goals as goal

pub returns-then-flights_fit : goal.returns-then-flights_fit
unfolding movements_fit
returns-then-flights_fit c = grind arith

pub returns-else-flights_fit : goal.returns-else-flights_fit
unfolding movements_fit
returns-else-flights_fit c = grind arith
