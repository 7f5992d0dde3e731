-- `grid::judge::judge_row` meets its contract. The invariant: the values passed, and what all of them were. Assumes
-- nothing.
use Rattle.std.specs.Prelude.{◌-◌}
use lib.{ListN.length}
use Rattle.grid.proofs.ValueLaws.{RowAt}
use Rattle.grid.proofs.judge.judge_row.Given as goal

abbrev pub invariant-loop-fine : goal.invariant-loop-fine
invariant-loop-fine l = RowAt l.nodata l.s l.at l.values l.sound

abbrev pub decreases-loop-fine : goal.decreases-loop-fine
decreases-loop-fine l = length l.s - l.at
