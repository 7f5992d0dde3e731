-- `explain_text::amounts::number_at` meets its contract: by definition. Assumes nothing.
use Rattle.explain_text.specs.InnerNumbers.{number_at}
use borrow.Author.Rules.{rules}
use Rattle.explain_text.proofs.amounts.number_at.Goals as goal

pub returns : goal.returns
returns c = unfold number_at in search rules
