-- `report_text::inner::put_totals` meets its contract: two numbers and the end of the line, each past the other.
-- Assumes nothing.
use Rattle.text.proofs.Within.{within_three}
use Rattle.report_text.proofs.inner.put_totals.Goals as goal

pub returns : goal.returns
returns c =
    within_three c.requires (rw c.added_up-totals.ensures.0 at c.put_field-computed.ensures)
    (rw c.added_up-totals.ensures.1 at c.put_field-missing.ensures) c.put_end.ensures
