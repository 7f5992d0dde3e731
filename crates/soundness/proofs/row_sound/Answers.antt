-- `soundness::row_sound` meets its contract. Assumes nothing.
use Rattle.std.proofs.Common.{rules}
use Rattle.soundness.proofs.Columnwise.{row_light}
use Rattle.soundness.proofs.row_sound.Goals as goal

pub returns-then-zero_with : goal.returns-then-zero_with
returns-then-zero_with c = rw (row_light _ _ _ _ _ c.requires) (search rules)

pub returns-else-zero_with : goal.returns-else-zero_with
returns-else-zero_with c = rw (row_light _ _ _ _ _ c.requires) (search rules)
