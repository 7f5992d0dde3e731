-- A line longer than any on its layout is refused. Assumes nothing.
use Rattle.couple_steps.proofs.Longest.{longest_table}
use Rattle.couple_steps.proofs.inner.feeding.MovementsTable.longest.Goals as goal

pub returns-clause-long_is_off : goal.returns-clause-long_is_off
returns-clause-long_is_off c = longest_table 9
