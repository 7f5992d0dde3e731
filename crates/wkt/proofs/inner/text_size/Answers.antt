use Rattle.std.specs.Prelude.{◌≡◌, ◌+◌, ◌≤◌, length}
use mathlib.Core.Path.{refl, ap, ◌∙◌}
use native.Mathlib.Omega.{arith}
use lib.ListN.{length-append}
use Rattle.network.specs.Limits.{max_edges}
use Rattle.network.proofs.Numbers.{edges_le}
use Rattle.wkt.specs.InnerParts.{left_of, piece_of}
use Rattle.wkt.proofs.Steps.{left_first, left_end, reached_first, count_total}
use Rattle.wkt.proofs.Stepped.{Stepped, stepped}
use Rattle.wkt.proofs.inner.text_size.Goals as goal
use Rattle.wkt.proofs.inner.text_size.Goals.{After-put_step-step, Start}

-- what the step did
step : (c : After-put_step-step)
    →
    let a = c.args in
    Stepped a.levels.now a.frame a.v a.edges.now a.counts.now a.closed.now
    c.loop-at.at c.put_step-step.result.next c.put_step-step.result.size
    c.put_step-step.new.piece
step c =
    let i = c.loop-at.invariant in
    stepped c.requires i.1.0 c.loop-at-test.true
    i.0 c.put_step-step.ensures

-- few edges and lines are listed
few : (s : Start) → (length s.args.edges.now ≤ max_edges)
    × (length s.args.counts.now ≤ max_edges)
few s =
    let k = s.requires in
    let e : length s.args.edges.now ≤ max_edges =
    omega (
      arith,
      k.few,
      edges_le s.args.frame.columns s.args.frame.rows k.checked.sized.sides.narrow
          k.checked.sized.sides.low,
    ) in
    (e, omega (arith, e, k.summed, count_total s.args.counts.now k.some))

pub loop-at-init : goal.loop-at-init
loop-at-init c =
    let a = c.args in
    let e = c.first-at.ensures in (
      refl,
      (
        reached_first a.levels.now a.frame a.v a.edges.now a.counts.now a.closed.now
            c.requires.summed c.first-at.result e,
        (
          omega (
            arith,
            ap length (left_first a.levels.now a.frame a.v a.edges.now a.counts.now
                a.closed.now c.first-at.result e),
          ),
          omega (arith, e.0, e.1.0, e.1.1),
        ),
      ),
    )

pub put_step-step-requires : goal.put_step-step-requires
put_step-step-requires c =
    ((c.requires, c.loop-at.invariant.1.0), (c.loop-at-test.true, omega (arith, c.loop-at.invariant.0)))

pub overflow_add-size : goal.overflow_add-size
overflow_add-size c =
    omega (
      arith,
      c.loop-at.invariant.1.1.1,
      (step (goal.at.overflow_add-size c).After-put_step-step).short,
      (few (goal.at.overflow_add-size c).Start).0,
      (few (goal.at.overflow_add-size c).Start).1,
    )

pub loop-at-preserved : goal.loop-at-preserved
loop-at-preserved c =
    let a = c.args in
    let i = c.loop-at.invariant in
    let g = step (goal.at.loop-at-preserved c).After-put_step-step in
    let n = c.put_step-step.result.next in
    let e : length (left_of a.levels.now a.frame a.v a.edges.now a.counts.now a.closed.now
    c.loop-at.at) ≡ length (piece_of a.levels.now a.frame a.v a.edges.now a.counts.now
    a.closed.now c.loop-at.at) + length (left_of a.levels.now a.frame a.v a.edges.now
    a.counts.now a.closed.now n) =
    ap length g.went.text ∙ length-append
    (piece_of a.levels.now a.frame a.v a.edges.now a.counts.now
    a.closed.now c.loop-at.at) (left_of a.levels.now a.frame a.v a.edges.now
    a.counts.now a.closed.now n) in (
      g.whole,
      (
        g.went.reached,
        (
          omega (arith, i.1.1.0, e, c.put_step-step.ensures.1.place),
          omega (arith, i.1.1.1, g.went.nearer, g.short),
        ),
      ),
    )

pub returns : goal.returns
returns c =
    let a = c.args in
    omega (
      arith,
      c.loop-at.invariant.1.1.0,
      ap length (left_end a.levels.now a.frame a.v
          a.edges.now a.counts.now a.closed.now c.loop-at.at c.loop-at-test.false),
    )

pub loop-at-smaller : goal.loop-at-smaller
loop-at-smaller c = (step (goal.at.loop-at-smaller c).After-put_step-step).went.nearer
