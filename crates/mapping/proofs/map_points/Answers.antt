-- `mapping::map_points` meets its contract. Assumes nothing.
use mathlib.Core.Path.{sym}
use native.Mathlib.Omega.{arith}
use Rattle.network.proofs.Refusals.{contour_not_refused}
use Rattle.mapping.proofs.Rooms.{short_places, short_which}
use Rattle.mapping.proofs.map_points.Goals as goal
use Rattle.mapping.proofs.map_points.Goals.{then-which-edges-via-then-which-edges}
use Rattle.mapping.proofs.map_points.Goals.{then-which-edges-via-else-which-edges+then-places-edges}

pub returns-then-which-edges : goal.returns-then-which-edges
returns-then-which-edges c =
    let a = c.args in
    let right = sym c.in_ok-contour_refusal.ensures in
    elim c.then-which-edges.branch [
      | then-which-edges-via-then-which-edges w ↦
          short_which a.levels.now a.frame a.v a.edges.now a.which.now a.places.now right w.if-which-edges.true
      | then-which-edges-via-else-which-edges+then-places-edges w ↦
          short_places a.levels.now a.frame a.v a.edges.now a.which.now a.places.now right (omega arith)
    ]

pub fill_points-requires : goal.fill_points-requires
fill_points-requires c =
    let a = c.args in (
      (contour_not_refused a.levels.now a.frame a.v (sym c.in_ok-contour_refusal.ensures)).0,
      (c.if-which-edges.false, omega arith),
    )
