-- `okubinrafo::rows::okubinrafo_write_row` meets its contract: not six fields, no room for the size, a refusal, or
-- a row. Assumes nothing.
use mathlib.Core.Path.{sym, ◌∙◌}
use native.Mathlib.Omega.{arith}
use borrow.Author.Tests.{eqb-true, eqb-false}
use Rattle.refusal.proofs.Laws.{settled}
use Rattle.room.proofs.Answers.{fault_two, short_second}
use Rattle.okubinrafo.proofs.Written.{wrong_count, of_numbers, write_refused, write_done}
use Rattle.okubinrafo.proofs.rows.okubinrafo_write_row.Goals as goal

pub returns-then-fields-ne-FIELDS : goal.returns-then-fields-ne-FIELDS
returns-then-fields-ne-FIELDS c =
    let a = c.args in
    fault_two (wrong_count a.points a.fields.now a.levels.now c.if-fields-ne-FIELDS.true ∙ sym c.number.ensures)
    (λ z. omega (arith, c.number.ensures, z))

pub returns-then-is_empty : goal.returns-then-is_empty
returns-then-is_empty c =
    let none = eqb-true _ 0 (settled c.is_empty.ensures c.if-is_empty.true) in
    of_numbers _ _ _ c.if-fields-ne-FIELDS.false c.fields_from-f.ensures
    (short_second (omega (arith, none)) (c.number-then-is_empty.ensures ∙ c.unwritten.ensures))

pub returns-in-Err : goal.returns-in-Err
returns-in-Err c =
    let some = eqb-false _ 0 (settled c.is_empty.ensures c.if-is_empty.false) in
    of_numbers _ _ _ c.if-fields-ne-FIELDS.false c.fields_from-f.ensures
    (write_refused _ _ _ _ c.write_row.ensures _ (omega (arith, some)) c.in-Err.is c.number-in-Err.ensures)

pub returns-in-Ok : goal.returns-in-Ok
returns-in-Ok c =
    let some = eqb-false _ 0 (settled c.is_empty.ensures c.if-is_empty.false) in
    of_numbers _ _ _ c.if-fields-ne-FIELDS.false c.fields_from-f.ensures
    (write_done _ _ _ _ c.write_row.ensures _ (omega (arith, some)) c.in-Ok.is)
