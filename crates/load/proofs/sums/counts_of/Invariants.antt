-- `load::sums::counts_of` meets its contract: the invariant is the list filled so far. Assumes nothing.
use Rattle.std.specs.Prelude.{◌≡◌}
use Rattle.load_rules.specs.{declared.Counts.Counts, Load.counts_of}
use Rattle.load.specs.InnerSteps.{group_at}
use Rattle.load.proofs.CellLaws.{filled}
use Rattle.load.proofs.sums.counts_of.Given as goal

abbrev pub none : Counts
none = record { computed = 0; missing = 0 }

abbrev pub invariant-loop-g : goal.invariant-loop-g
invariant-loop-g l = l.flat ≡ filled none (λ i. counts_of (group_at l.groups i)) l.g
