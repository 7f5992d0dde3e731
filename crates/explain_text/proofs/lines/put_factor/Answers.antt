-- `explain_text::lines::put_factor` meets its contract: a comma alone, or with two numbers and a slash between them.
-- Assumes nothing.
use native.Mathlib.Omega.{arith}
use borrow.Author.{Tests.eq-eqb, Tests.ne_eqb}
use Rattle.explain_text.specs.Text.{factor_text}
use Rattle.text.proofs.Within.{within, within_three}
use Rattle.explain_text.proofs.lines.put_factor.Goals as goal

pub returns-then-lower-eq0 : goal.returns-then-lower-eq0
unfolding factor_text
returns-then-lower-eq0 c =
    rw (eq-eqb c.args.lower 0 c.if-lower-eq0.true) (within (omega arith) c.put_byte.ensures)

pub returns : goal.returns
unfolding factor_text
returns c =
    rw (ne_eqb c.args.lower 0 c.if-lower-eq0.false)
    (within_three c.requires c.put_field-slash.ensures (within {m = 1} (omega arith) c.put_byte-next.ensures)
    c.put_any_number.ensures)
