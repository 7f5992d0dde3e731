-- `explain_text::lines::put_pair` meets its contract: two numbers, one past the other. Assumes nothing.
use Rattle.text.proofs.Within.{within_then}
use Rattle.explain_text.proofs.lines.put_pair.Goals as goal

pub returns : goal.returns
returns c =
    within_then c.requires c.put_field-next.ensures c.put_field.ensures
