-- `report_text::inner::put_rounded` meets its contract: a comma, and past it the level or `below`. Assumes nothing.
use native.Mathlib.Omega.{arith}
use Rattle.text.proofs.Within.{within}
use Rattle.report_text.proofs.inner.put_rounded.Goals as goal

pub put_limit-requires : goal.put_limit-requires
put_limit-requires c =
    (rw c.in-At.is at c.requires.0, omega (arith, c.requires.1))

pub returns-in-BelowZero : goal.returns-in-BelowZero
returns-in-BelowZero c =
    rw c.in-BelowZero.is (within (omega arith) c.put_word.ensures)

pub returns-in-At : goal.returns-in-At
returns-in-At c = rw c.in-At.is c.put_limit.ensures
