-- `contour::sweep::sweep_range` meets its contract: while edges are tried, the buffers hold what the edges below n
-- gave. Assumes nothing.
use Rattle.contour.specs.InnerDesk.{pictured, desk, Sweeps}
use Rattle.contour.proofs.sweep.sweep_range.Given as goal

abbrev pub invariant-loop-n : goal.invariant-loop-n
invariant-loop-n l =
    Sweeps (pictured l.network l.v) l.closes l.from l.n
    (desk l.initial.list l.initial.edges l.initial.counts l.initial.closed l.initial.so_far.edges
    l.initial.so_far.contours) (desk l.list l.edges l.counts l.closed l.so_far.edges l.so_far.contours)
