-- `report_steps::inner::enter_row` meets its contract: *enter* with one yes a point. Assumes nothing.
use mathlib.Core.Path.{sym}
use native.Mathlib.Omega.{arith}
use lib.Seq.{length-take-le}
use Rattle.report_steps.proofs.Intakes.{everywhere}
use Rattle.report_steps.proofs.inner.enter_row.Goals as goal

pub returns : goal.returns
returns c =
    everywhere c.requires.points_le_max_points c.enter.ensures

pub slice_bounds-enter-end : goal.slice_bounds-enter-end
slice_bounds-enter-end c = sym (length-take-le _ _ (omega arith))
