-- `contours::input::gather` meets its contract. Assumes nothing.
use mathlib.Core.Path.{refl, ◌∙◌}
use native.Mathlib.Omega.{arith}
use Rattle.contours_steps.proofs.Gathering.{gathering_none, gathering_next, gathered}
use Rattle.contours.proofs.input.gather.Goals as goal

pub loop-place-preserved : goal.loop-place-preserved
loop-place-preserved c =
    let w = c.word_at-fit.ensures in
    let l = c.loop-place in
    (gathering_next l.invariant.0 w refl, w.taken.long ∙ l.invariant.1)

pub returns : goal.returns
returns c =
    gathered c.loop-place.invariant.0 c.argument_count-count.ensures (omega (arith, c.loop-place.auto.place-end))

pub loop-place-init : goal.loop-place-init
loop-place-init c = (gathering_none c.args.asked.now, refl)

pub shape_of-asked : goal.shape_of-asked
shape_of-asked c = c.loop-place.invariant.1
