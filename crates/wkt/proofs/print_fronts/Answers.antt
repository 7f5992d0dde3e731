-- `wkt::print_fronts` meets its contract. Assumes nothing.
use mathlib.Core.Path.{sym}
use lib.Seq.{length-take-le}
use Rattle.wkt.proofs.print_fronts.Goals as goal

pub slice_bounds-print_listed-end-2 : goal.slice_bounds-print_listed-end-2
slice_bounds-print_listed-end-2 c =
    sym (length-take-le _ _ c.requires.0.1.0)

pub slice_bounds-print_listed-end-3 : goal.slice_bounds-print_listed-end-3
slice_bounds-print_listed-end-3 c =
    sym (length-take-le _ _ c.requires.0.1.1)

pub slice_bounds-print_listed-end : goal.slice_bounds-print_listed-end
slice_bounds-print_listed-end c = sym (length-take-le _ _ c.requires.0.0)
