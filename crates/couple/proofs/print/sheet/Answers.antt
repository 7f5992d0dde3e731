use mathlib.Core.Path.{refl, ◌∙◌}
use native.Mathlib.Omega.{arith}
use lib.{ListN.take}
use Rattle.channel.specs.Due.{Sends}
use Rattle.channel.proofs.Dues.{due_front, due_rest, sends_lost, rest_next_lem, rest_none}
use Rattle.couple_steps.specs.{InnerSheet.heading_text}
use Rattle.couple_steps.proofs.Order.{heading_due, lines_due, lines_rest, lines_none}
use Rattle.couple.proofs.print.sheet.Goals as goal

pub written-requires : goal.written-requires
written-requires c =
    let a = c.args in
    record {
      many_le_max_flights = c.requires.many_le_max_flights.0;
      due = rw c.requires.sent_value (heading_due a.ids.now a.numbers.now a.answers.now a.many);
    }

pub returns-then-not-written : goal.returns-then-not-written
returns-then-not-written c =
    sends_lost _ (c.written.ensures.lost (c.if-not-written.true))

pub loop-i-init : goal.loop-i-init
loop-i-init c =
    let a = c.args in
    let sent : Sends 0 heading_text _ _ = rw c.requires.sent_value at c.written.ensures in
    let all = c.if-not-written.false in (
      omega arith,
      refl,
      lines_due a.ids.now a.numbers.now a.answers.now a.many _ (sent.count all),
      lines_rest a.ids.now a.numbers.now a.answers.now a.many all sent,
    )

pub put_lines-part-requires : goal.put_lines-part-requires
put_lines-part-requires c =
    record {
      longest_flight_in_bounds = omega (arith, c.loop-i.invariant.1, c.requires.many_le_max_flights.1);
      from_lt_many = omega arith;
    }

pub written-requires-in-loop-i : goal.written-requires-in-loop-i
written-requires-in-loop-i c =
    let p = c.put_lines-part in
    record {
      many_le_max_flights = c.requires.many_le_max_flights.0;
      due = due_front (take p.result.size p.new.out) _ (rw p.ensures.joined at c.loop-i.invariant.2);
    }

pub returns-then-not-written-2 : goal.returns-then-not-written-2
returns-then-not-written-2 c =
    sends_lost _ (c.written-in-loop-i.ensures.lost (c.if-not-written-2.true))

pub loop-i-preserved : goal.loop-i-preserved
loop-i-preserved c =
    let all = c.if-not-written-2.false in
    let p = c.put_lines-part in
    let e = p.ensures in
    let bytes = take p.result.size p.new.out in (
      e.within,
      e.long ∙ c.loop-i.invariant.1,
      rw (c.written-in-loop-i.ensures.count all) (due_rest bytes _ (rw e.joined at c.loop-i.invariant.2)),
      rest_next_lem bytes _ (rw e.joined at c.loop-i.invariant.3) all c.written-in-loop-i.ensures,
    )

pub returns : goal.returns
returns c =
    let a = c.args in
    rest_none c.loop-i.invariant.3
    (lines_none a.ids.now a.numbers.now a.answers.now a.many c.loop-i.i (omega arith))
