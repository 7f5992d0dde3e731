use mathlib.Core.{Path.◌≡◌, Path.sym, Path.◌∙◌, Bool.true}
use Rattle.std.specs.Prelude.{◌<◌, length}
use native.Mathlib.Omega.{arith}
use Rattle.network.specs.Edges.{edges}
use Rattle.network.proofs.Numbers.{edges_le}
use Rattle.contour_rules.specs.{Contours.waits}
use Rattle.contour_rules.proofs.Waiting.{waits_lt, waiting-set}
use Rattle.contour.specs.InnerDesk.{pictured}
use Rattle.contour.proofs.Tracing.{ahead_within, fits, goes_on, ended}
use Rattle.contour.proofs.walk.trace.Goals as goal
use Rattle.contour.proofs.walk.trace.Goals.{In-loop-here}

-- in a turn the edge waits, so it is an edge of the network and there is room for it
waits-here : (c : In-loop-here)
    → waits c.loop-here.list c.loop-here.here.edge ≡ true
waits-here c = sym c.still_waits.ensures ∙ c.loop-here-test.true

below : (c : In-loop-here)
    → c.loop-here.here.edge < edges
    c.args.network.nx
    c.args.network.ny
below c =
    let l = c.loop-here in
    omega (
      arith,
      waits_lt l.list l.here.edge (waits-here c),
      l.invariant.as_many,
      c.requires.long,
    )

room-here : (c : In-loop-here)
    → c.loop-here.at < length c.loop-here.edges
room-here c = fits _ _ _ _ _ _ _ _ _ _ c.loop-here.invariant (waits-here c)

pub overflow_cast-edges : goal.overflow_cast-edges
overflow_cast-edges c =
    let d = c.args.network.sized.sides in
    omega (arith, below c, edges_le c.args.network.nx c.args.network.ny d.narrow d.low)

pub step-here-requires : goal.step-here-requires
step-here-requires c =
    let l = c.loop-here in
    ahead_within (pictured c.args.network c.args.v) c.args.network.sized.sides.wide l.here.edge l.here.ahead (below c)
    (l.invariant.heads (below c))

pub loop-here-smaller : goal.loop-here-smaller
loop-here-smaller c = omega (
  arith,
  waiting-set c.loop-here.list
      c.loop-here.here.edge (waits-here (goal.at.loop-here-smaller c).In-loop-here),
)

pub loop-here-preserved : goal.loop-here-preserved
loop-here-preserved c =
    goes_on _ _ _ _ _ _ _ _ _ _ c.loop-here.invariant c.args.network.sized.sides.wide
    (below (goal.at.loop-here-preserved c).In-loop-here) (waits-here (goal.at.loop-here-preserved c).In-loop-here) _ _
    c.step-here.ensures.0 c.step-here.ensures.1

pub returns : goal.returns
returns c =
    ended _ _ _ _ _ _ _ _ _ _ c.loop-here.invariant (omega (arith, c.requires.room))
    (sym c.still_waits.ensures ∙ c.loop-here-test.false)

pub bounds-edges-at : goal.bounds-edges-at
bounds-edges-at c = room-here c
