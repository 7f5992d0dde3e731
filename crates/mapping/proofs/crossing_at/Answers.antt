-- `mapping::crossing_at` meets its contract. Assumes nothing.
use mathlib.Core.Path.{sym}
use Rattle.network.proofs.Refusals.{contour_not_refused}
use Rattle.mapping.proofs.crossing_at.Goals as goal

pub crossing_of-requires : goal.crossing_of-requires
crossing_of-requires c =
    let a = c.args in
    (contour_not_refused a.levels.now a.frame a.v (sym c.in_ok-contour_refusal.ensures)).0
