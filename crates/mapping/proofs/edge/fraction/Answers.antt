-- `mapping::edge::fraction` meets its contract. Assumes nothing.
use borrow.Author.Rules.{rules}
use Rattle.mapping.proofs.Quotients.{rounded}
use Rattle.mapping.proofs.edge.fraction.Goals as goal

pub returns : goal.returns
returns c = rounded c.args.num c.args.den (search rules) (search rules)
    (search rules)
