-- `contour::sweep::sweep_range` meets its contract. Assumes nothing.
use borrow.Author.{Tests.ne_eqb}
use Rattle.contour.proofs.Listings.{sweep_goes_on, sweep_passes}
use Rattle.contour.proofs.sweep.sweep_range.Goals as goal
use Rattle.contour.proofs.sweep.sweep_range.Goals.{then-list-n-eq1, else-list-n-eq1}

pub loop-n-preserved : goal.loop-n-preserved
loop-n-preserved c =
    elim c.if-list-n-eq1.branch [
      | then-list-n-eq1 w ↦
          rw (w.list-is, w.edges-is, w.counts-is, w.closed-is, w.so_far-is)
          (sweep_goes_on _ _ _ _ _ _ _ c.loop-n.invariant w.try_edge-so_far.ensures)
      | else-list-n-eq1 w ↦
          rw (w.list-is, w.edges-is, w.counts-is, w.closed-is, w.so_far-is)
          (sweep_passes _ _ _ _ _ _ (ne_eqb _ 1 w.if-list-n-eq1.false) c.loop-n.invariant)
    ]
