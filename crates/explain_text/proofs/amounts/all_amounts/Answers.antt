-- `explain_text::amounts::all_amounts` meets its contract: each number is one of the account, or a sum of them.
-- Assumes nothing.
use Rattle.explain_text.specs.InnerNumbers.{all_in}
use Rattle.explain_text.proofs.amounts.all_amounts.Goals as goal

pub returns : goal.returns
returns c = unfold all_in in cc
