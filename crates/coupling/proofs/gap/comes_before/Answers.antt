-- `coupling::gap::comes_before` meets its contract: the weightier numbers decide, and where they are equal the next.
-- Assumes nothing.
use Rattle.std.proofs.Common.{rules}
use Rattle.coupling_rules.specs.InnerPacked.{ranked}
use Rattle.coupling.proofs.gap.comes_before.Goals as goal

pub returns : goal.returns
unfolding ranked
returns c = search rules
