-- `mapping::map_point` meets its contract. Assumes nothing.
use mathlib.Core.Path.{sym}
use Rattle.network.proofs.Refusals.{contour_not_refused}
use Rattle.mapping.proofs.map_point.Goals as goal

pub locate_at-requires : goal.locate_at-requires
locate_at-requires c =
    let a = c.args in
    (contour_not_refused a.levels.now a.frame a.v (sym c.in_ok-contour_refusal.ensures)).0
