-- `load::days_fit` meets its contract: both ends of the range. Assumes nothing.
use borrow.Author.Rules.{rules}
use Rattle.load_rules.specs.Load.{days_fit}
use Rattle.load.proofs.days_fit.Goals as goal

pub returns : goal.returns
unfolding days_fit
returns c = search rules
