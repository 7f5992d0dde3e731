-- `journal::numbers::is_laid_out` meets its contract: the whole is on the layout exactly if the rest is.
-- Assumes nothing.
use mathlib.Core.Path.{◌≡◌}
use Rattle.std.specs.Prelude.{◌≤◌, length}
use Rattle.journal.specs.Journal.{laid_out}
use Rattle.journal.proofs.numbers.is_laid_out.Given as goal

abbrev pub invariant-loop-rest : goal.invariant-loop-rest
invariant-loop-rest l = (length l.rest ≤ length l.journal) × (laid_out l.journal ≡ laid_out l.rest)

abbrev pub decreases-loop-rest : goal.decreases-loop-rest
decreases-loop-rest l = length l.rest
