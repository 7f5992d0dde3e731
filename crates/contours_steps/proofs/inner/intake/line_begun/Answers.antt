use native.Mathlib.Omega.{arith}
use Rattle.contours_steps.proofs.Begun.{counting_none, counting_room, counting_next, counting_end}
use Rattle.contours_steps.proofs.inner.intake.line_begun.Goals as goal

pub loop-end-preserved : goal.loop-end-preserved
loop-end-preserved c = counting_next c.line_end-end-in-loop-end.result c.loop-end.invariant (omega arith)
    c.line_end-end-in-loop-end.ensures

pub line_end-end-requires : goal.line_end-end-requires
line_end-end-requires c = omega arith

pub loop-end-init : goal.loop-end-init
loop-end-init c = counting_none c.args.text.now c.line_end-end.result c.line_end-end.ensures

pub overflow_add-at : goal.overflow_add-at
overflow_add-at c = omega (arith, counting_room c.loop-end.invariant (omega arith))

pub overflow_add-line : goal.overflow_add-line
overflow_add-line c = omega (arith, c.loop-end.invariant.few, c.loop-end.invariant.within)

pub line_end-end-requires-in-loop-end : goal.line_end-end-requires-in-loop-end
line_end-end-requires-in-loop-end c = counting_room c.loop-end.invariant (omega arith)

pub loop-end-smaller : goal.loop-end-smaller
loop-end-smaller c = let l = c.loop-end in omega (arith, counting_room l.invariant (omega arith), l.invariant.ended)

pub returns : goal.returns
returns c = counting_end c.loop-end.invariant (omega arith)
