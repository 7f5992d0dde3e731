-- `movement::rules::movement_refusal` meets its contract: rule 1, then rule 2. Assumes nothing.
use Rattle.std.proofs.Common.{rules}
use Rattle.movement.specs.Rules.{movement_refusal, counts}
use Rattle.movement.proofs.rules.movement_refusal.Goals as goal

pub returns-then-not-fields_fit : goal.returns-then-not-fields_fit
unfolding movement_refusal
returns-then-not-fields_fit c = search rules

pub returns-then-mass-le-MASS_NOT_COUNTED : goal.returns-then-mass-le-MASS_NOT_COUNTED
unfolding movement_refusal counts
returns-then-mass-le-MASS_NOT_COUNTED c = search rules

pub returns : goal.returns
unfolding movement_refusal counts
returns c = search rules
