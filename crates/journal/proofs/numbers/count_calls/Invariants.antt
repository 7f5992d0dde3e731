-- `journal::numbers::count_calls` meets its contract. Assumes nothing.
use Rattle.std.specs.Prelude.{length}
use Rattle.journal.proofs.Reading.{Counted}
use Rattle.journal.proofs.numbers.count_calls.Given as goal

abbrev pub invariant-loop-rest : goal.invariant-loop-rest
invariant-loop-rest l = Counted l.journal l.rest l.count

abbrev pub decreases-loop-rest : goal.decreases-loop-rest
decreases-loop-rest l = length l.rest
