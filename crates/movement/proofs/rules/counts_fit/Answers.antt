-- `movement::rules::counts_fit` meets its contract. Assumes nothing.
use Rattle.movement.specs.Rules.{counts_fit}
use Rattle.movement.proofs.rules.counts_fit.Goals as goal

pub returns : goal.returns
returns c = unfold counts_fit in c.one_a_point.ensures
