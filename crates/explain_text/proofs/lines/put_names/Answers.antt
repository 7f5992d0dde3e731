-- `explain_text::lines::put_names` meets its contract: two letters and a word, each past the other. Assumes nothing.
use Rattle.text.proofs.Within.{within_three}
use Rattle.explain_text.proofs.lines.put_names.Goals as goal

pub returns : goal.returns
returns c =
    within_three c.requires.1 c.put_letter-kind.ensures c.put_letter-period.ensures c.put_period.ensures
