-- `contours_steps::inner::put::put_start` meets its contract: the level, and the semicolon past it. Assumes nothing.
use native.Mathlib.Omega.{arith}
use Rattle.text.proofs.Within.{within, within_then}
use Rattle.contours_steps.proofs.inner.put.put_start.Goals as goal

pub returns : goal.returns
returns c =
    (within_then c.requires.1 c.put_any_thousandths-next.ensures
    (within {m = 1} (omega arith) c.put_byte.ensures)).wrote
