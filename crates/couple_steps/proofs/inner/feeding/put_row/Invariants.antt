-- `couple_steps::inner::feeding::put_row` meets its contract: the columns before k have their number. Assumes nothing.
use Rattle.couple_steps.proofs.Tables.{Storing}
use Rattle.couple_steps.proofs.inner.feeding.put_row.Given as goal

abbrev pub invariant-loop-k : goal.invariant-loop-k
invariant-loop-k l = Storing l.columns l.initial.table l.row l.values l.k l.table
