-- `movement::rules::identity_fits` meets its contract. Assumes nothing.
use Rattle.std.proofs.Common.{rules}
use Rattle.movement.specs.Rules.{identity_fits}
use Rattle.movement.proofs.rules.identity_fits.Goals as goal

pub returns : goal.returns
unfolding identity_fits
returns c = search rules
