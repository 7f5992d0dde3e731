-- `soundness::top_level` meets its contract. Assumes nothing.
use Rattle.std.proofs.Common.{rules}
use Rattle.book_rules.specs.Columns.{top_level}
use Rattle.soundness.proofs.top_level.Goals as goal

pub returns-then-says-eq0 : goal.returns-then-says-eq0
unfolding top_level
returns-then-says-eq0 c = search rules

pub returns-else-says-eq0 : goal.returns-else-says-eq0
unfolding top_level
returns-else-says-eq0 c = search rules
