-- `contours_steps::inner::intake::overlong_line` meets its contract: a line of the header, one that ends, or none.
-- Assumes nothing.
use native.Mathlib.Omega.{arith}
use Rattle.contours_steps.proofs.Begun.{overlong_head, overlong_ended, overlong_none}
use Rattle.contours_steps.proofs.inner.intake.overlong_line.Goals as goal
use Rattle.contours_steps.proofs.inner.intake.overlong_line.Goals.{then-line-le5-via-then-line-le5}
use Rattle.contours_steps.proofs.inner.intake.overlong_line.Goals.{then-line-le5-via-else-line-le5+then-line-line_begun}

pub returns-then-line-le5 : goal.returns-then-line-le5
returns-then-line-le5 c =
    let text = c.args.text.now in
    let fault = c.fault_line-line.ensures in
    elim c.then-line-le5.branch [
      | then-line-le5-via-then-line-le5 w ↦ overlong_head text fault w.if-line-le5.true
      | then-line-le5-via-else-line-le5+then-line-line_begun w ↦
          overlong_ended text fault (omega (arith, w.if-line-le5.false)) w.line_begun.ensures w.if-line-line_begun.true
    ]

pub returns : goal.returns
returns c =
    overlong_none c.args.text.now c.fault_line-line.ensures (omega arith)
    c.line_begun.ensures
    (omega arith)
