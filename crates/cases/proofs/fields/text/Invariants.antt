-- `cases::fields::text` is safe, ends, and counts the bytes that it put. Assumes nothing.
use Rattle.std.specs.Prelude.{◌≤◌, length}
use Rattle.cases.proofs.fields.text.Given as goal

abbrev pub invariant-loop-c : goal.invariant-loop-c
invariant-loop-c l = l.n ≤ length l.out
