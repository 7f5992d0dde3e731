-- `explain_text::lines::put_group` meets its contract: the number, the names and the amounts, each past the other.
-- Assumes nothing.
use Rattle.text.proofs.Within.{within_three, within_is}
use Rattle.explain_text.proofs.Grouped.{group_is}
use Rattle.explain_text.proofs.lines.put_group.Goals as goal

pub returns : goal.returns
returns c =
    within_is
    (within_three c.requires.2 c.put_any_number-number.ensures c.put_names-next.ensures
    c.put_amounts.ensures)
    (group_is c.args.point c.args.g c.args.a)
