use Rattle.std.specs.Prelude.{length}
use mathlib.Core.Path.{refl, ap}
use native.Mathlib.Omega.{arith}
use Rattle.text.proofs.Shown.{whole_one, whole_longer, shown_width, shown_least}
use Rattle.grid.proofs.size.whole_size.Goals as goal

pub overflow_add-size : goal.overflow_add-size
overflow_add-size c =
    omega (
      arith,
      c.loop-left.invariant.0,
      shown_width 7 6 c.args.n
          (omega (arith, c.requires)),
      shown_least 6 c.loop-left.left,
    )

pub loop-left-preserved : goal.loop-left-preserved
loop-left-preserved c =
    let l = c.loop-left in (
      omega (
        arith,
        l.invariant.0,
        whole_longer l.left c.loop-left-test.true
            (omega (arith, l.invariant.1, c.requires)),
      ),
      omega (arith, l.invariant.1),
    )

pub returns : goal.returns
returns c =
    let l = c.loop-left in
    let one = ap length (whole_one l.left (omega (arith, c.loop-left-test.false))) in
    omega (arith, l.invariant.0)

pub loop-left-init : goal.loop-left-init
loop-left-init c = (refl, omega arith)

pub loop-left-smaller : goal.loop-left-smaller
loop-left-smaller c = omega (arith, c.loop-left-test.true)
