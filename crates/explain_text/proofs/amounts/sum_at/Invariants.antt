-- `explain_text::amounts::sum_at` meets its contract: the sum is that of the groups passed. Assumes nothing.
use Rattle.std.specs.Prelude.{◌≡◌}
use Rattle.explain_text.specs.InnerNumbers.{sum_at}
use Rattle.explain_text.proofs.amounts.sum_at.Given as goal

abbrev pub invariant-loop-g : goal.invariant-loop-g
invariant-loop-g l = l.sum ≡ sum_at l.numbers l.k l.g
