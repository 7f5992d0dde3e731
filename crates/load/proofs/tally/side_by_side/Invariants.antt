-- `load::tally::side_by_side` meets its contract: the invariant is the list filled so far. Assumes nothing.
use Rattle.std.specs.Prelude.{◌≡◌}
use Rattle.load_rules.specs.{Tally.group_with}
use Rattle.load.specs.InnerSteps.{group_at}
use Rattle.load.proofs.CellLaws.{filled}
use Rattle.load.proofs.tally.side_by_side.Given as goal

abbrev pub invariant-loop-g : goal.invariant-loop-g
invariant-loop-g l = l.cells ≡ filled (group_with 0 0 0) (group_at l.groups) l.g
