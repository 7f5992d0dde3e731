-- `okubinrafo::rows::row_fault` meets its contract: what the library refuses, or 14. Assumes nothing.
use Rattle.okubinrafo.proofs.Lines.{row_faulty, row_fine}
use Rattle.okubinrafo.proofs.rows.row_fault.Goals as goal

pub returns-in-Err : goal.returns-in-Err
returns-in-Err c = row_faulty _ _ _ c.read_row.ensures c.in-Err.is

pub returns-in-Ok : goal.returns-in-Ok
returns-in-Ok c = row_fine _ _ _ c.read_row.ensures c.in-Ok.is
