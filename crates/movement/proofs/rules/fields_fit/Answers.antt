-- `movement::rules::fields_fit` meets its contract: its tests are those of `fields_fit`, in its order. Assumes nothing.
use Rattle.std.proofs.Common.{rules}
use Rattle.movement.specs.Rules.{fields_fit}
use Rattle.movement.proofs.rules.fields_fit.Goals as goal

pub returns-then-mass-le-MAX_MASS : goal.returns-then-mass-le-MAX_MASS
unfolding fields_fit
returns-then-mass-le-MAX_MASS c = search rules

pub returns-else-mass-le-MAX_MASS : goal.returns-else-mass-le-MAX_MASS
unfolding fields_fit
returns-else-mass-le-MAX_MASS c = search rules
