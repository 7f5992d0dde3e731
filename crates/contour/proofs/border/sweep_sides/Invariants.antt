-- `contour::border::sweep_sides` meets its contract. Assumes nothing.
use mathlib.Core.{Bool.false}
use Rattle.contour.specs.InnerDesk.{pictured, desk, Sweeps}
use Rattle.network.specs.Edges.{number_of}
use Rattle.network.specs.declared.Edge.TheVariants.{Vertical}
use Rattle.contour.proofs.border.sweep_sides.Given as goal

abbrev pub invariant-loop-row : goal.invariant-loop-row
invariant-loop-row l =
    Sweeps (pictured l.network l.v) false (number_of l.network.nx l.network.ny (Vertical 0 0))
    (number_of l.network.nx l.network.ny (Vertical l.row 0))
    (desk l.initial.list l.initial.edges l.initial.counts l.initial.closed l.initial.so_far.edges
    l.initial.so_far.contours)
    (desk l.list l.edges l.counts l.closed l.so_far.edges l.so_far.contours)
