-- `load::tally::periods_from` meets its contract: by definition. Assumes nothing.
use borrow.Author.Rules.{rules}
use Rattle.load.specs.InnerSteps.{flat_at}
use Rattle.load.proofs.tally.periods_from.Goals as goal

pub returns : goal.returns
returns c = unfold flat_at in search rules
