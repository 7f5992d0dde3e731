use native.Mathlib.Omega.{arith}
use Rattle.couple_steps.proofs.Tables.{storing_none, cell_within, storing_next, storing_done}
use Rattle.couple_steps.proofs.inner.feeding.put_row.Goals as goal

-- the cell lies within the table
pub bounds-table-k : goal.bounds-table-k
bounds-table-k c =
    cell_within c.loop-k.invariant c.requires.roomy c.requires.row_lt_max_flights (omega arith)

pub loop-k-preserved : goal.loop-k-preserved
loop-k-preserved c =
    storing_next c.loop-k.invariant c.requires.roomy c.requires.row_lt_max_flights (omega arith)

pub returns : goal.returns
returns c =
    storing_done c.loop-k.invariant c.requires.roomy c.requires.row_lt_max_flights (omega arith)

pub loop-k-init : goal.loop-k-init
loop-k-init c = storing_none _ _ _ _

pub shape_of-table : goal.shape_of-table
shape_of-table c = c.loop-k.invariant.long
