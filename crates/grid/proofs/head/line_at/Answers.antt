-- `grid::head::line_at` meets its contract. Assumes nothing.
use Rattle.grid.proofs.LineLaws.{line_ended, line_open}
use Rattle.grid.proofs.head.line_at.Goals as goal

pub returns-then-end-s : goal.returns-then-end-s
returns-then-end-s c =
    line_ended _ _ c.line_end-end.result c.requires c.line_end-end.ensures c.if-end-s.true

pub returns-else-end-s : goal.returns-else-end-s
returns-else-end-s c =
    line_open _ _ c.line_end-end.result c.requires c.line_end-end.ensures c.if-end-s.false
