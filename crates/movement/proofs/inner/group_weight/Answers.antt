-- `movement::inner::group_weight` meets its contract: 0, 500 and 1,000 are 500 times the period's number.
-- Assumes nothing.
use mathlib.Core.Path.{sym}
use Rattle.movement.proofs.Ranges.{group_weight_lem}
use Rattle.movement.proofs.inner.group_weight.Goals as goal

pub returns : goal.returns
returns c = sym (group_weight_lem _)
