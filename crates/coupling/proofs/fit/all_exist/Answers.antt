-- `coupling::fit::all_exist` meets its contract: all exist exactly where each does. Assumes nothing.
use Rattle.std.proofs.Common.{rules}
use Rattle.coupling.proofs.Filling.{exist_exactly}
use Rattle.coupling.proofs.fit.all_exist.Goals as goal

pub returns : goal.returns
returns c = exist_exactly _ _ (search rules)
