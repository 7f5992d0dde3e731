-- `explain_text::lines::put_all` meets its contract: the number, the word and the amounts, each past the other.
-- Assumes nothing.
use native.Mathlib.Omega.{arith}
use Rattle.text.proofs.Within.{within, within_more, within_three, within_is}
use Rattle.explain_text.proofs.Grouped.{all_is_lem}
use Rattle.explain_text.proofs.lines.put_all.Goals as goal

pub returns : goal.returns
returns c =
    within_more {m = 154} (omega arith)
    (within_is
    (within_three (omega (arith, c.requires.1)) c.put_any_number-number.ensures
    (within {m = 6} (omega arith) c.put_text-next.ensures) c.put_amounts.ensures)
    (all_is_lem c.args.point c.args.a))
