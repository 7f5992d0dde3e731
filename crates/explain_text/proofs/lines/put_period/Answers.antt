-- `explain_text::lines::put_period` meets its contract: a comma, and past it the word. Assumes nothing.
use Rattle.std.specs.Prelude.{◌%◌}
use native.Mathlib.Omega.{arith}
use borrow.Author.Tests.{ne_eqb}
use Rattle.movement.specs.Group.{group_period}
use Rattle.text.proofs.Within.{within}
use Rattle.explain_text.proofs.lines.put_period.Goals as goal

pub returns-in-0 : goal.returns-in-0
unfolding group_period
returns-in-0 c = rw c.in-0.is (within (omega arith) c.put_word.ensures)

pub returns-in-1 : goal.returns-in-1
unfolding group_period
returns-in-1 c = rw c.in-1.is (within (omega arith) c.put_word-in-1.ensures)

pub returns-in_default : goal.returns-in_default
unfolding group_period
returns-in_default c =
    rw (ne_eqb (c.args.g % 3) 0 (λ z. omega arith), ne_eqb (c.args.g % 3) 1 (λ z. omega arith))
    (within (omega arith) c.put_word-in_default.ensures)
