-- `contour::contours` meets its contract. Assumes nothing.
use mathlib.Core.Path.{sym}
use Rattle.network.proofs.Refusals.{contour_not_refused}
use Rattle.contour.proofs.contours.Goals as goal

pub new-requires : goal.new-requires
new-requires c =
    let a = c.args in
    (contour_not_refused a.levels.now a.frame a.v (sym c.in_ok-contour_refusal.ensures)).0
