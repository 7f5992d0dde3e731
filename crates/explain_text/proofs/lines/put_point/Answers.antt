-- `explain_text::lines::put_point` meets its contract: the groups, and past them all of them. Assumes nothing.
use Rattle.text.proofs.Within.{within_then, within_is}
use Rattle.explain_text.specs.InnerNumbers.{group_in, all_in}
use Rattle.explain_text.proofs.Grouped.{point_is}
use Rattle.explain_text.proofs.lines.put_point.Goals as goal

pub returns : goal.returns
returns c =
    let n = c.args.numbers.now in
    within_is
    (within_then c.requires.2 c.put_groups-next.ensures (rw c.all_amounts.ensures at c.put_all.ensures))
    (point_is c.args.point (group_in n) (all_in n))
