-- `contours::print::fronts` meets its contract: the parts lent on lie within the buffers. Assumes nothing.
use mathlib.Core.Path.{sym}
use lib.Seq.{length-take-le}
use Rattle.contours.proofs.print.fronts.Goals as goal

pub slice_bounds-parts-end-2 : goal.slice_bounds-parts-end-2
slice_bounds-parts-end-2 c =
    sym (length-take-le _ _ c.requires.edges_in_bounds.0.1.0)

pub slice_bounds-parts-end-3 : goal.slice_bounds-parts-end-3
slice_bounds-parts-end-3 c =
    sym (length-take-le _ _ c.requires.edges_in_bounds.0.1.1)

pub slice_bounds-parts-end : goal.slice_bounds-parts-end
slice_bounds-parts-end c = sym (length-take-le _ _ c.requires.edges_in_bounds.0.0)

pub slice_bounds-drawn-end : goal.slice_bounds-drawn-end
slice_bounds-drawn-end c = sym (length-take-le _ _ c.requires.edges_in_bounds.0.1.1)

pub returns : goal.returns
returns c = c.parts-went.ensures
