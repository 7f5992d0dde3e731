-- `coupling::gap::same_rank` meets its contract: two are one exactly if all three numbers are. Assumes nothing.
use Rattle.std.proofs.Common.{rules}
use Rattle.coupling_rules.specs.InnerPacked.{ranked}
use Rattle.coupling.proofs.gap.same_rank.Goals as goal

pub returns : goal.returns
unfolding ranked
returns c = search rules
