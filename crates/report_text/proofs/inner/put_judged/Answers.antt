-- `report_text::inner::put_judged` meets its contract: level, limit and verdict, each past the other. Assumes nothing.
use Rattle.text.proofs.Within.{within_three}
use Rattle.report_text.proofs.inner.put_judged.Goals as goal

pub returns : goal.returns
returns c =
    within_three c.requires.2 c.put_rounded-rounded.ensures c.put_limit-next.ensures
    (rw c.judge.ensures at c.put_verdict.ensures)
