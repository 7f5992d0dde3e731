-- `load::account::put_groups` meets its contract. The invariant: the numbers of the groups passed stand at the front.
-- Assumes nothing.
use Rattle.std.specs.Prelude.{◌≡◌}
use Rattle.room.specs.Room.{front}
use Rattle.load_rules.specs.Account.{groups_to}
use Rattle.load.specs.InnerSteps.{group_at}
use Rattle.load.proofs.account.put_groups.Given as goal

abbrev pub invariant-loop-g : goal.invariant-loop-g
invariant-loop-g l = l.answer ≡ front (groups_to (group_at l.groups) l.g) l.initial.answer
