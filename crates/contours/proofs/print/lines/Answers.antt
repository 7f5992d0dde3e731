use Rattle.std.specs.Prelude.{◌+◌, get_or, drop}
use native.Mathlib.Omega.{arith}
use Rattle.channel.specs.Due.{Sends}
use Rattle.contours_steps.specs.Sheet.{heading, level_line, level_lines}
use Rattle.channel.proofs.Dues.{due_front, due_rest, sends_lost, rest_next_lem, rest_none}
use Rattle.contours_steps.proofs.Order.{heading_due, lines_due, lines_rest, lines_more, lines_none}
use Rattle.contours.proofs.print.lines.Goals as goal

pub written-requires : goal.written-requires
written-requires c =
    record {
      drawable = c.requires.drawable;
      due = rw c.requires.sent_value
          (heading_due c.args.levels.now c.args.frame c.args.asked.now);
    }

pub returns-then-not-written : goal.returns-then-not-written
returns-then-not-written c =
    sends_lost _ (c.written.ensures.lost (c.if-not-written.true))

pub loop-i-init : goal.loop-i-init
loop-i-init c =
    let a = c.args in
    let sent : Sends 0 heading _ _ = rw c.requires.sent_value at c.written.ensures in
    let all = c.if-not-written.false in (
      lines_due a.levels.now a.frame a.asked.now _ (sent.count all),
      lines_rest a.levels.now a.frame a.asked.now all sent,
    )

pub one_level-requires : goal.one_level-requires
one_level-requires c =
    let a = c.args in
    let l = c.loop-i in
    let one = level_line a.levels.now a.frame (get_or a.asked.now l.i 0) in
    let rest = level_lines a.levels.now a.frame (drop (l.i + 1) a.asked.now) in
    let e = lines_more a.levels.now a.frame a.asked.now l.i (omega arith) in
    record {
      drawable = c.requires.drawable;
      i_in_bounds = omega arith;
      due = due_front one rest
          (rw e at l.invariant.0);
    }

pub returns-then-not-one_level : goal.returns-then-not-one_level
returns-then-not-one_level c =
    sends_lost _ (c.one_level.ensures.lost (c.if-not-one_level.true))

pub loop-i-preserved : goal.loop-i-preserved
loop-i-preserved c =
    let a = c.args in
    let l = c.loop-i in
    let sent = c.one_level.ensures in
    let all = c.if-not-one_level.false in
    let one = level_line a.levels.now a.frame (get_or a.asked.now l.i 0) in
    let rest = level_lines a.levels.now a.frame (drop (l.i + 1) a.asked.now) in
    let e = lines_more a.levels.now a.frame a.asked.now l.i (omega arith) in (
      rw (sent.count all) (due_rest one rest (rw e at l.invariant.0)),
      rest_next_lem one rest (rw e at l.invariant.1) all sent,
    )

pub returns : goal.returns
returns c =
    let a = c.args in
    let l = c.loop-i in
    rest_none l.invariant.1 (lines_none a.levels.now a.frame a.asked.now l.i (omega arith))
