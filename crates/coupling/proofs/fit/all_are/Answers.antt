-- `coupling::fit::all_are` meets its contract: all are exactly where each is. Assumes nothing.
use Rattle.std.proofs.Common.{rules}
use Rattle.coupling.proofs.Filling.{is_exactly}
use Rattle.coupling.proofs.fit.all_are.Goals as goal

pub returns : goal.returns
returns c = is_exactly c.args.n c.args.lengths.now _ (search rules)
