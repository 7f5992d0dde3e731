-- `channel::whole::fill_from` meets its contract. The loop's invariant: what came stands at the front of the buffer.
-- Assumes nothing.
use Rattle.std.proofs.Common.{◌-◌, ◌≤◌, length, take}
use Rattle.channel.specs.Input.{Came, origin_of}
use Rattle.channel.proofs.whole.fill_from.Given as goal

abbrev pub invariant-loop-n : goal.invariant-loop-n
invariant-loop-n l = (l.n ≤ length l.text) × Came (origin_of l.opened l.name) l.taken (take l.n l.text)

abbrev pub decreases-loop-n : goal.decreases-loop-n
decreases-loop-n l = length l.text - l.n
