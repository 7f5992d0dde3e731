-- `couple::say::count`: no count is over the movements that were seen. Assumes nothing.
use Rattle.std.specs.Prelude.{◌≤◌}
use Rattle.couple.proofs.say.count.Given as goal

abbrev pub invariant-loop-i : goal.invariant-loop-i
invariant-loop-i l = (l.with_track ≤ l.i) × (l.circuits ≤ l.i) × (l.none ≤ l.i)
