-- `load::sums::summed` meets its contract: the invariant is the sums over the groups so far. Assumes nothing.
use Rattle.std.specs.Prelude.{◌≡◌}
use Rattle.load.specs.InnerSteps.{group_at, sums_of}
use Rattle.load.proofs.sums.summed.Given as goal

abbrev pub invariant-loop-g : goal.invariant-loop-g
invariant-loop-g l = l.s ≡ sums_of (group_at l.groups) l.g
