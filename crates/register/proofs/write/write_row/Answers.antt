-- `register::write::write_row` meets its contract: a fault, too little room, or the text that was put together.
-- Assumes nothing.
use Rattle.std.specs.Prelude.{◌≡◌, [], ◌∷◌, length}
use Rattle.std.proofs.Common.{arith, sym, ap, ◌∙◌, eq-eqb, ne_eqb, le-leb}
use Rattle.std.proofs.lemmas.Result.{err_from_is_err_and}
use borrow.Author.Tests.{lt-leb}
use lib.Seq.{length-take-le}
use Rattle.refusal.specs.Refusal.{number_of}
use Rattle.refusal.specs.declared.Refusal.TheVariants.{TooLittleRoom}
use Rattle.refusal.proofs.Laws.{numbered}
use Rattle.room.specs.Room.{front}
use Rattle.room.proofs.Laws.{wrote_front, wrote_fits, front_part}
use Rattle.register.specs.Write.{show_row, write_fault, write_refusal}
use Rattle.register.proofs.Writes.{fault_fine, fine_writable, row_unwritten}
use Rattle.register.proofs.write.write_row.Goals as goal
use Rattle.register.proofs.write.write_row.Goals.{In_ok-write_fault}

pub returns-in_err-write_fault : goal.returns-in_err-write_fault
unfolding write_refusal
returns-in_err-write_fault c =
    let why = c.in_err-write_fault.field-0.0 in
    let p = err_from_is_err_and c.from_residual.result c.from_residual.ensures.1 in
    let bad = ne_eqb (number_of why) 0 (λ z. omega (arith, numbered why)) in
    rw (p.1, p.2) (row_unwritten why (rw (← c.in_err-write_fault.ensures, bad)))

-- past the first test there is no fault
fine : (c : In_ok-write_fault) → write_fault c.args.points c.args.f c.args.levels.now ≡ 0
fine c = sym c.in_ok-write_fault.ensures

pub put_row-n-requires : goal.put_row-n-requires
put_row-n-requires c = (
  fine_writable (fault_fine _ _ _ (fine (goal.at.put_row-n-requires c).In_ok-write_fault)),
  omega arith,
)

pub returns-then-out-n : goal.returns-then-out-n
unfolding write_refusal
returns-then-out-n c =
    let a = c.args in
    let none = eq-eqb _ 0 (fine (goal.at.returns-then-out-n c).In_ok-write_fault) in
    let short = lt-leb (length (show_row a.f a.levels.now)) (length a.out.now)
    (omega (arith, c.put_row-n.ensures.0.place, c.if-out-n.true)) in
    row_unwritten TooLittleRoom (rw (none, short))

pub returns : goal.returns
unfolding write_refusal
returns c =
    let a = c.args in
    let p = c.put_row-n in
    let none = eq-eqb _ 0 (fine (goal.at.returns c).In_ok-write_fault) in
    let n : p.result ≡ length (show_row a.f a.levels.now) = omega (arith, p.ensures.0.place) in
    let room = le-leb (length (show_row a.f a.levels.now)) (length a.out.now)
    (omega (arith, c.if-out-n.false)) in
    record {
      number = rw (none, room);
      values = rw (none, room) (ap (λ k. k ∷ []) n);
      bytes = rw (none, room) (front_part p.result a.out.now c.copy_from_slice.ensures.after
          (length-take-le _ _ (wrote_fits p.ensures.0))
          ∙ ap (λ t. front t a.out.now) (wrote_front p.ensures.0));
    }
