-- `soundness::head_sound` meets its contract. Assumes nothing.
use Rattle.std.proofs.Common.{rules}
use Rattle.book_rules.specs.Columns.{head_sound}
use Rattle.soundness.proofs.head_sound.Goals as goal

pub returns-then-g-eq0 : goal.returns-then-g-eq0
unfolding head_sound
returns-then-g-eq0 c = search rules

pub returns-else-g-eq0 : goal.returns-else-g-eq0
unfolding head_sound
returns-else-g-eq0 c = search rules

pub returns-then-g : goal.returns-then-g
unfolding head_sound
returns-then-g c = search rules

pub returns-else-g : goal.returns-else-g
unfolding head_sound
returns-else-g c = search rules
