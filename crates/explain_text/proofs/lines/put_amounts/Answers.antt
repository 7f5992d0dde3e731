-- `explain_text::lines::put_amounts` meets its contract: two numbers, the factor, two numbers and the end of the
-- line, each past the other. Assumes nothing.
use Rattle.text.proofs.Within.{within_four}
use Rattle.explain_text.specs.InnerRoom.{amounts_text}
use Rattle.explain_text.proofs.lines.put_amounts.Goals as goal

pub returns : goal.returns
unfolding amounts_text
returns c =
    within_four c.requires c.put_pair-factor.ensures c.put_factor-energies.ensures c.put_pair-end.ensures
    c.put_end.ensures
