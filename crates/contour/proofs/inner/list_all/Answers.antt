-- `contour::inner::list_all` meets its contract. Assumes nothing.
use Rattle.contour.specs.InnerDesk.{pictured}
use Rattle.contour.proofs.Borders.{all_swept}
use Rattle.contour.proofs.inner.list_all.Goals as goal
use Rattle.contour.proofs.inner.list_all.Goals.{Start}

pub returns : goal.returns
returns c =
    all_swept (pictured c.args.network c.args.v) c.args.list.now c.args.edges.now c.args.counts.now
    c.args.closed.now _ _ c.requires.0 c.list_open-open.ensures
    (rw c.edge_count-total.ensures at c.sweep_range.ensures)
