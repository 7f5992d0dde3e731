-- `movement::inner::group_of` meets its contract: the group of the cases that the numbers and the second name.
-- Assumes nothing.
use mathlib.Core.Path.{◌∙◌}
use Rattle.movement.specs.Group.{group_of}
use Rattle.movement.proofs.inner.group_of.Goals as goal

pub returns : goal.returns
unfolding group_of
returns c =
    c.number_of.ensures
    ∙ rw (c.numbered.ensures, c.numbered-2.ensures, c.at.ensures)
