-- `wkt::place::spot_of` meets its contract. Assumes nothing.
use mathlib.Core.{Path.◌≡◌, Path.subst, Bool.true}
use Rattle.std.specs.Prelude.{ℕ, ◌*◌, ◌≤◌, List}
use Rattle.network.specs.declared.Frame.{Frame}
use native.Mathlib.Omega.{arith}
use Rattle.network.specs.declared.Edge.{Edge}
use Rattle.network.specs.declared.Edge.TheVariants.{Horizontal, Vertical}
use Rattle.network.specs.{Edges.WithinEdge, Crossed.crossed_edge}
use Rattle.network.proofs.Astride.{astride, num_den}
use Rattle.wkt.proofs.Nearest.{offset_small, metres_small}
use Rattle.wkt.proofs.place.spot_of.Goals as goal
use Rattle.wkt.proofs.place.spot_of.Goals.{In-Horizontal, In-Vertical}

abbrev Crossing : (levels : List ℕ) (f : Frame) (v : ℕ) → Edge → Type 0
Crossing levels f v e = WithinEdge f.columns f.rows e × (crossed_edge levels f.columns v e ≡ true)

ready : (c : In-Horizontal)
    → Crossing c.args.levels.now c.args.frame c.args.v (Horizontal c.in-Horizontal.row c.in-Horizontal.col)
ready c = subst (Crossing c.args.levels.now c.args.frame c.args.v) c.in-Horizontal.is c.requires.1

ready-2 : (c : In-Vertical)
    → Crossing c.args.levels.now c.args.frame c.args.v (Vertical c.in-Vertical.row c.in-Vertical.col)
ready-2 c = subst (Crossing c.args.levels.now c.args.frame c.args.v) c.in-Vertical.is c.requires.1

pub stand-requires : goal.stand-requires
stand-requires c = (
  omega (arith, (ready (goal.at.stand-requires c).In-Horizontal).0.1, c.requires.0.sized.sides.narrow),
  (c.requires.0.near, c.requires.0.west),
)

pub slide-requires : goal.slide-requires
slide-requires c = (
  rw (c.level-west.ensures, c.level-east.ensures)
      (astride c.args.v _ _ (ready (goal.at.slide-requires c).In-Horizontal).1),
  c.requires.0.near,
)

pub overflow_add-result : goal.overflow_add-result
overflow_add-result c =
    let d = num_den c.args.v _ _ (astride c.args.v _ _ (ready (goal.at.overflow_add-result c).In-Horizontal).1) in
    let far : c.slide.result ≤ 1000 * c.args.frame.spacing =
    rw (c.slide.ensures, c.level-west.ensures, c.level-east.ensures)
    (offset_small c.args.frame.spacing _ _ d.0 d.1) in
    omega (
      arith,
      far,
      c.stand.ensures,
      metres_small c.in-Horizontal.col c.args.frame.spacing
          (omega (arith, (ready (goal.at.overflow_add-result c).In-Horizontal).0.1, c.requires.0.sized.sides.narrow))
          c.requires.0.near,
      c.requires.0.near,
      c.requires.0.west,
    )

pub stand-requires-in-Horizontal : goal.stand-requires-in-Horizontal
stand-requires-in-Horizontal c = (
  omega (arith, (ready (goal.at.stand-requires-in-Horizontal c).In-Horizontal).0.0, c.requires.0.sized.sides.low),
  (c.requires.0.near, c.requires.0.south),
)

pub stand-requires-in-Vertical : goal.stand-requires-in-Vertical
stand-requires-in-Vertical c = (
  omega (arith, (ready-2 (goal.at.stand-requires-in-Vertical c).In-Vertical).0.1, c.requires.0.sized.sides.narrow),
  (c.requires.0.near, c.requires.0.west),
)

pub stand-requires-in-Vertical-2 : goal.stand-requires-in-Vertical-2
stand-requires-in-Vertical-2 c = (
  omega (arith, (ready-2 (goal.at.stand-requires-in-Vertical-2 c).In-Vertical).0.0, c.requires.0.sized.sides.low),
  (c.requires.0.near, c.requires.0.south),
)

pub slide-requires-in-Vertical : goal.slide-requires-in-Vertical
slide-requires-in-Vertical c = (
  rw (c.level-south.ensures, c.level-north.ensures)
      (astride c.args.v _ _ (ready-2 (goal.at.slide-requires-in-Vertical c).In-Vertical).1),
  c.requires.0.near,
)

pub overflow_add-result-in-Vertical : goal.overflow_add-result-in-Vertical
overflow_add-result-in-Vertical c =
    let d = num_den c.args.v _ _
    (astride c.args.v _ _ (ready-2 (goal.at.overflow_add-result-in-Vertical c).In-Vertical).1) in
    let far : c.slide-in-Vertical.result ≤ 1000 * c.args.frame.spacing =
    rw (
      c.slide-in-Vertical.ensures,
      c.level-south.ensures,
      c.level-north.ensures,
    ) (offset_small c.args.frame.spacing _ _ d.0 d.1) in
    omega (
      arith,
      far,
      c.stand-in-Vertical-2.ensures,
      metres_small c.in-Vertical.row c.args.frame.spacing
          (omega (
            arith,
            (ready-2 (goal.at.overflow_add-result-in-Vertical c).In-Vertical).0.0,
            c.requires.0.sized.sides.low,
          ))
          c.requires.0.near,
      c.requires.0.near,
      c.requires.0.south,
    )

pub returns-in-Horizontal : goal.returns-in-Horizontal
returns-in-Horizontal c = rw (
  c.in-Horizontal.is,
  c.stand.ensures,
  c.slide.ensures,
  c.stand-in-Horizontal.ensures,
  c.level-west.ensures,
  c.level-east.ensures,
)

pub returns-in-Vertical : goal.returns-in-Vertical
returns-in-Vertical c = rw (
  c.in-Vertical.is,
  c.stand-in-Vertical.ensures,
  c.stand-in-Vertical-2.ensures,
  c.slide-in-Vertical.ensures,
  c.level-south.ensures,
  c.level-north.ensures,
)

pub level-west-requires : goal.level-west-requires
level-west-requires c = let w = (ready c).0 in (c.requires.0.sized, (w.0, omega (arith, w.1)))

pub overflow_add-col : goal.overflow_add-col
overflow_add-col c = omega (
  arith,
  (ready (goal.at.overflow_add-col c).In-Horizontal).0.1,
  c.requires.0.sized.sides.narrow,
)

pub level-east-requires : goal.level-east-requires
level-east-requires c = (c.requires.0.sized, (ready (goal.at.level-east-requires c).In-Horizontal).0)

pub level-south-requires : goal.level-south-requires
level-south-requires c = let w = (ready-2 c).0 in (c.requires.0.sized, (omega (arith, w.0), w.1))

pub overflow_add-row : goal.overflow_add-row
overflow_add-row c = omega (arith, (ready-2 (goal.at.overflow_add-row c).In-Vertical).0.0, c.requires.0.sized.sides.low)

pub level-north-requires : goal.level-north-requires
level-north-requires c = (c.requires.0.sized, (ready-2 (goal.at.level-north-requires c).In-Vertical).0)
