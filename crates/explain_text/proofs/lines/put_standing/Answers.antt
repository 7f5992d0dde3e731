-- `explain_text::lines::put_standing` meets its contract: the line of the group, or nothing. Assumes nothing.
use native.Mathlib.Omega.{arith}
use mathlib.Core.Path.{sym, ◌∙◌}
use Rattle.text.proofs.Within.{within_none, within_more, within_is}
use Rattle.explain_text.proofs.Grouped.{standing_is, none_is}
use Rattle.explain_text.proofs.lines.put_standing.Goals as goal

pub returns-then-has_movement : goal.returns-then-has_movement
returns-then-has_movement c =
    within_is c.put_group.ensures
    (standing_is c.args.point c.args.g c.args.a
    (sym c.has_movement.ensures ∙ c.if-has_movement.true))

pub returns : goal.returns
returns c =
    within_more {m = 0} (omega arith)
    (within_is within_none
    (none_is c.args.point c.args.g c.args.a (sym c.has_movement.ensures ∙ c.if-has_movement.false)))
