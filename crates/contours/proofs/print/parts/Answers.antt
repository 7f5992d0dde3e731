use mathlib.Core.{Path.◌≡◌, Path.sym, Path.ap, Logic.⊎_elim}
use native.Mathlib.Omega.{arith}
use lib.{ListN.length, ListN.take, ListN.length-append, Seq.length-take-le}
use Rattle.wkt.specs.{Text.text_of, InnerParts.left_of, InnerParts.lines_from}
use Rattle.wkt.proofs.{Lengths.piece_short, Steps.left_first, Steps.left_end, Steps.reached_first}
use Rattle.channel.proofs.Dues.{due_front, due_rest, sends_lost, rest_all, rest_next_lem, rest_none}
use Rattle.contours.proofs.print.parts.Goals as goal

pub loop-at-init : goal.loop-at-init
loop-at-init c =
    let a = c.args in
    let from = c.first-at in
    let e =
    left_first a.levels.now a.frame a.v a.edges.now a.counts.now a.closed.now from.result
    from.ensures in (
      reached_first a.levels.now a.frame a.v a.edges.now a.counts.now a.closed.now
          c.requires.printable.summed
          from.result
          from.ensures,
      sym c.buffer-room.ensures,
      rw e c.requires.due,
      rw e (rest_all a.sent.now (text_of a.levels.now a.frame a.v
          (lines_from a.edges.now a.counts.now a.closed.now))),
    )

pub print_part-part-requires : goal.print_part-part-requires
print_part-part-requires c =
    (c.requires.printable, c.loop-at.invariant.0)

pub slice_bounds-written-end : goal.slice_bounds-written-end
slice_bounds-written-end c =
    let e = c.print_part-part.ensures in
    sym (length-take-le _ _ (omega (arith, e.fits, e.long)))

pub written-requires : goal.written-requires
written-requires c =
    let a = c.args in
    let p = c.print_part-part in
    let bytes = take p.result.size p.new.room in
    let left =
    left_of a.levels.now a.frame a.v a.edges.now a.counts.now a.closed.now p.result.next in
    record { drawable = c.requires.drawable; due = due_front bytes left (rw p.ensures.joined at c.loop-at.invariant.2) }

pub returns-then-not-written : goal.returns-then-not-written
returns-then-not-written c =
    sends_lost _ (c.written.ensures.lost (c.if-not-written.true))

pub loop-at-smaller : goal.loop-at-smaller
loop-at-smaller c =
    let a = c.args in
    let p = c.print_part-part in
    let e = p.ensures in
    let l = c.loop-at in
    let bytes = take p.result.size p.new.room in
    let left =
    left_of a.levels.now a.frame a.v a.edges.now a.counts.now a.closed.now p.result.next in
    let n : length bytes ≡ p.result.size =
    length-take-le p.result.size p.new.room (omega (arith, e.fits, e.long)) in
    ⊎_elim
    (λ ended. omega (arith, ap length e.joined, length-append bytes left, n))
    (λ full. omega (
      arith,
      ap length e.joined,
      length-append bytes left,
      n,
      l.invariant.1,
      piece_short a.levels.now a.frame a.v a.edges.now a.counts.now a.closed.now
          p.result.next,
    ))
    e.stopped

pub loop-at-preserved : goal.loop-at-preserved
loop-at-preserved c =
    let all = c.if-not-written.false in
    let a = c.args in
    let p = c.print_part-part in
    let e = p.ensures in
    let l = c.loop-at in
    let bytes = take p.result.size p.new.room in
    let left =
    left_of a.levels.now a.frame a.v a.edges.now a.counts.now a.closed.now
    p.result.next in (
      e.reached,
      omega (arith, e.long, l.invariant.1),
      rw (c.written.ensures.count all) (due_rest bytes left (rw e.joined at l.invariant.2)),
      rest_next_lem bytes left (rw e.joined at l.invariant.3) all c.written.ensures,
    )

pub returns : goal.returns
returns c =
    let a = c.args in
    let l = c.loop-at in
    let none =
    left_end a.levels.now a.frame a.v a.edges.now a.counts.now a.closed.now l.at
    (omega arith) in
    rest_none l.invariant.3 none

pub slice_bounds-room-end : goal.slice_bounds-room-end
slice_bounds-room-end c = let e = c.print_part-part.ensures in omega (arith, e.fits, e.long)
