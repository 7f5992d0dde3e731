-- `contour::walk::trace` meets its contract: the invariant is `Going`, and the measure the number of edges that
-- wait. Assumes nothing.
use Rattle.contour.specs.InnerDesk.{pictured}
use Rattle.contour_rules.specs.Contours.{waiting}
use Rattle.contour.proofs.Tracing.{Going}
use Rattle.contour.proofs.walk.trace.Given as goal

abbrev pub invariant-loop-here : goal.invariant-loop-here
invariant-loop-here l =
    Going (pictured l.network l.v) l.initial.list l.initial.edges l.from l.initial.here.edge l.list l.edges
    l.here.edge l.here.ahead l.at

abbrev pub decreases-loop-here : goal.decreases-loop-here
decreases-loop-here l = waiting l.list
