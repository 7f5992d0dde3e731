-- `movement::rules::levels_fit` meets its contract. Assumes nothing.
use Rattle.movement.specs.Rules.{levels_fit}
use Rattle.movement.proofs.rules.levels_fit.Goals as goal

pub returns : goal.returns
returns c = unfold levels_fit in c.one_a_point.ensures
