-- `report_text::inner::put_verdict` meets its contract: a comma, and past it the word. Assumes nothing.
use native.Mathlib.Omega.{arith}
use Rattle.text.proofs.Within.{within}
use Rattle.report_text.proofs.inner.put_verdict.Goals as goal

pub returns-in-Within : goal.returns-in-Within
returns-in-Within c =
    rw c.in-Within.is (within (omega arith) c.put_word.ensures)

pub returns-in-Over : goal.returns-in-Over
returns-in-Over c =
    rw c.in-Over.is (within (omega arith) c.put_word-in-Over.ensures)
