-- `okubinrafo::rows::unwritten` meets its contract: what the library refuses, or 14. Assumes nothing.
use Rattle.okubinrafo.proofs.Written.{write_faulty, write_fine}
use Rattle.okubinrafo.proofs.rows.unwritten.Goals as goal

pub returns-in-Err : goal.returns-in-Err
returns-in-Err c = write_faulty _ _ _ _ c.write_row.ensures c.in-Err.is

pub returns-in-Ok : goal.returns-in-Ok
returns-in-Ok c = write_fine _ _ _ _ c.write_row.ensures c.in-Ok.is
