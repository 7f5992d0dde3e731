-- `grid::judge::judge_rows` meets its contract. The invariant: the rows passed, and what all of them were. Assumes
-- nothing.
use Rattle.std.specs.Prelude.{◌-◌, length}
use Rattle.grid.proofs.RowLaws.{RowsAt}
use Rattle.grid.proofs.judge.judge_rows.Given as goal

abbrev pub invariant-loop-at : goal.invariant-loop-at
invariant-loop-at l =
    RowsAt l.nodata l.columns l.first l.s l.from l.at l.count l.fits l.sound

abbrev pub decreases-loop-at : goal.decreases-loop-at
decreases-loop-at l = length l.s - l.at
