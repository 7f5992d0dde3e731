-- `cases::fields::numbers` is safe, ends, and counts the numbers that it put. Assumes nothing.
use Rattle.std.specs.Prelude.{◌≤◌, length}
use Rattle.cases.proofs.fields.numbers.Given as goal

abbrev pub invariant-loop-digits : goal.invariant-loop-digits
invariant-loop-digits l =
    (goal.iterator-loop-digits).can_next l.digits-iterator × (goal.iterator-loop-digits).is_finite l.digits-iterator
    × (l.n ≤ length l.out)
