-- `explain_text::amounts::whole_at` meets its contract: by definition. Assumes nothing.
use Rattle.explain_text.specs.InnerNumbers.{whole_at}
use borrow.Author.Rules.{rules}
use Rattle.explain_text.proofs.amounts.whole_at.Goals as goal

pub returns : goal.returns
returns c = unfold whole_at in search rules
