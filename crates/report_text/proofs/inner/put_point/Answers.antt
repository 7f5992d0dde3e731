-- `report_text::inner::put_point` meets its contract: the number, what was judged and the totals, each past the other.
-- Assumes nothing.
use Rattle.text.proofs.Within.{within_three, within_is}
use Rattle.report_text.proofs.Lines.{six_is}
use Rattle.report_text.proofs.inner.put_point.Goals as goal

pub returns : goal.returns
returns c =
    within_is
    (within_three c.requires.3 c.put_any_number-number.ensures c.put_judged-judged.ensures
    c.put_totals.ensures)
    (six_is _ _ _ _ _ _)
