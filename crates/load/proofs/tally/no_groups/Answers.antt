-- `load::tally::no_groups` meets its contract: by definition. Assumes nothing.
use borrow.Author.Rules.{rules}
use Rattle.load_rules.specs.Tally.{tally, sum_of}
use Rattle.load.specs.InnerSteps.{table}
use Rattle.load.proofs.tally.no_groups.Goals as goal

pub returns : goal.returns
returns c = unfold table tally sum_of in search rules
