use mathlib.Core.{Path.sym, Path.ap, Path.subst, Logic.inl, Logic.inr, List.List}
use Rattle.std.specs.Prelude.{ℕ, ◌+◌, ◌≤◌}
use native.Mathlib.Omega.{arith}
use lib.{ListN.length, Seq.length-take-le}
use borrow.Author.Rules.{rules}
use Rattle.room.specs.Room.{Wrote}
use Rattle.room.proofs.Laws.{wrote_front, wrote_fits}
use Rattle.wkt.specs.InnerParts.{piece_of}
use Rattle.wkt.proofs.{Stepped.Stepped, Stepped.stepped}
use Rattle.wkt.proofs.Rooms.{come_none, come_more, come_stops}
use Rattle.wkt.proofs.inner.print_part.Goals as goal
use Rattle.wkt.proofs.inner.print_part.Goals.{After-put_step-step}

-- what the step did
step : (c : After-put_step-step)
    →
    let a = c.args in
    Stepped a.levels.now a.frame a.v a.edges.now a.counts.now a.closed.now
    c.loop-at.at c.put_step-step.result.next c.put_step-step.result.size
    c.put_step-step.new.piece
step c =
    let i = c.loop-at.invariant in
    stepped c.requires.0 i.reached
    c.loop-at-test.true i.whole c.put_step-step.ensures

pub loop-at-init : goal.loop-at-init
loop-at-init c =
    let a = c.args in
    come_none a.levels.now a.frame a.v a.edges.now a.counts.now a.closed.now a.from
    a.room.now _ c.requires.1 (search rules)

pub put_step-step-requires : goal.put_step-step-requires
put_step-step-requires c =
    ((c.requires.0, c.loop-at.invariant.reached), (c.loop-at-test.true, omega (arith, c.loop-at.invariant.whole)))

pub overflow_sub-room : goal.overflow_sub-room
overflow_sub-room c = omega (
  arith,
  c.loop-at.invariant.fits,
  c.loop-at.invariant.long,
)

pub returns-then-room-size : goal.returns-then-room-size
returns-then-room-size c =
    let i = c.loop-at.invariant in
    come_stops i (inr (omega (arith, c.if-room-size.true, c.put_step-step.ensures.1.place, i.long, i.fits)))

pub put_text-size-requires : goal.put_text-size-requires
put_text-size-requires c =
    let i = c.loop-at.invariant in
    let w = c.put_step-step.ensures.1 in
    omega (arith, ap length (wrote_front w), w.place, c.if-room-size.false, i.fits, i.long)

pub loop-at-preserved : goal.loop-at-preserved
loop-at-preserved c =
    let a = c.args in
    let l = c.loop-at in
    let t = c.put_step-step in
    let w = t.ensures.1 in
    let p = c.put_text-size in
    let fits : l.size + length (piece_of a.levels.now a.frame a.v a.edges.now a.counts.now
    a.closed.now
    l.at) ≤ length l.room = omega (arith, w.place, c.if-room-size.false, l.invariant.fits, l.invariant.long) in
    come_more a.levels.now a.frame a.v a.edges.now a.counts.now a.closed.now a.from
    a.room.now l.room l.piece l.at l.size l.invariant t.result.next t.new.piece
    p.new.out p.result
    t.ensures.0 c.loop-at-test.true fits (subst (λ (t : List ℕ). Wrote l.room l.size t p.new.out
    p.result) (wrote_front w) p.ensures)
    (step (goal.at.loop-at-preserved c).After-put_step-step).went.text
    (step (goal.at.loop-at-preserved c).After-put_step-step).went.reached
    (step (goal.at.loop-at-preserved c).After-put_step-step).whole

pub slice_bounds-piece-end : goal.slice_bounds-piece-end
slice_bounds-piece-end c = wrote_fits c.put_step-step.ensures.1

pub slice_bounds-put_text-end : goal.slice_bounds-put_text-end
slice_bounds-put_text-end c = sym (length-take-le _ _ (wrote_fits c.put_step-step.ensures.1))

pub loop-at-smaller : goal.loop-at-smaller
loop-at-smaller c = (step (goal.at.loop-at-smaller c).After-put_step-step).went.nearer

pub returns : goal.returns
returns c = come_stops c.loop-at.invariant (inl c.loop-at-test.false)
