-- `okubinrafo::rows::okubinrafo_read_row` meets its contract: no room for the fields, a refusal, or a row.
-- Assumes nothing.
use mathlib.Core.Path.{◌∙◌}
use Rattle.room.proofs.Answers.{short_first}
use Rattle.okubinrafo.proofs.Lines.{row_refused, row_read}
use Rattle.okubinrafo.proofs.rows.okubinrafo_read_row.Goals as goal

pub returns-in-Err : goal.returns-in-Err
returns-in-Err c =
    row_refused _ _ _ c.read_row.ensures _ c.if-fields-lt-FIELDS.false c.in-Err.is c.number-in-Err.ensures

pub returns-in-Ok : goal.returns-in-Ok
returns-in-Ok c =
    row_read _ _ _ c.read_row.ensures _ c.if-fields-lt-FIELDS.false c.in-Ok.is
    c.put_fields.ensures

pub returns-then-fields-lt-FIELDS : goal.returns-then-fields-lt-FIELDS
returns-then-fields-lt-FIELDS c = short_first c.if-fields-lt-FIELDS.true (c.number.ensures ∙ c.row_fault.ensures)
