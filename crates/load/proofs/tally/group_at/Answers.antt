-- `load::tally::group_at` meets its contract: by definition. Assumes nothing.
use borrow.Author.Rules.{rules}
use Rattle.load.specs.InnerSteps.{group_at}
use Rattle.load.proofs.tally.group_at.Goals as goal

pub returns : goal.returns
returns c = unfold group_at in search rules
