use mathlib.Core.Path.{refl, ◌∙◌}
use native.Mathlib.Omega.{arith}
use borrow.Author.Rules.{rules}
use Rattle.stream.proofs.Turns.{come_none, come_next, come_done}
use Rattle.stream.proofs.inner.filling.fill_whole.Goals as goal

pub loop-left-init : goal.loop-left-init
loop-left-init g c =
    (rw c.requires.taken_value (come_none _ c.args.bytes.now c.requires.room), c.requires.ready, refl, refl, refl)

pub returns-in_default-clause-done : goal.returns-in_default-clause-done
returns-in_default-clause-done g c =
    let l = c.loop-left.invariant in
    come_done l.0 (rw l.2 at c.fill_on-turn.ensures.turned) c.requires.long_is_off
    c.in_default.not-Going

pub loop-left-preserved : goal.loop-left-preserved
loop-left-preserved g c =
    let l = c.loop-left.invariant in
    let r = c.fill_on-turn in
    (come_next l.0 (rw l.2 at r.ensures.turned) c.in-Going.is, r.ensures.kept, r.ensures.same ∙ l.2, r.ensures.lent ∙ l.3, search rules)
