-- `mapping::fraction_of` meets its contract. Assumes nothing.
use mathlib.Core.Path.{◌∙◌}
use Rattle.mapping.proofs.Zero.{zero_whole}
use Rattle.mapping.proofs.fraction_of.Goals as goal

pub returns-in-Nowhere : goal.returns-in-Nowhere
returns-in-Nowhere c = zero_whole ∙ rw c.in-Nowhere.is
