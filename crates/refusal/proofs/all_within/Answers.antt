use Rattle.std.proofs.Common.{rules}
use Rattle.refusal.proofs.Ranges.{within_exactly}
use Rattle.refusal.proofs.all_within.Goals as goal

pub returns : goal.returns
returns c = within_exactly _ _ _ (search rules)
