-- `register::write::put_field` meets its contract: the comma, and past it the column. Assumes nothing.
use native.Mathlib.Omega.{arith}
use borrow.Author.{Tests.eq-eqb, Tests.ne_eqb}
use Rattle.room.proofs.Laws.{wrote_then}
use Rattle.register.proofs.Columns.{text_most}
use Rattle.register.proofs.write.put_field.Goals as goal

pub returns-then-k-eq-IDENTITY : goal.returns-then-k-eq-IDENTITY
returns-then-k-eq-IDENTITY c = rw (eq-eqb c.args.k 0
    c.if-k-eq-IDENTITY.true) c.put_cell.ensures

pub returns : goal.returns
returns c =
    let a = c.args in
    let p = c.requires in
    rw (ne_eqb a.k 0 c.if-k-eq-IDENTITY.false)
    (wrote_then (omega (arith, p.1, text_most a.mark a.k a.v p.0)) c.put_byte-next.ensures
    c.put_cell-2.ensures)
