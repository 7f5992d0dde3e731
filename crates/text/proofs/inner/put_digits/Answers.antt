use Rattle.std.specs.Prelude.{◌≡◌, ◌+◌, ◌-◌, ◌/◌, ◌%◌, ◌≤◌, [], ◌∷◌, length}
use Rattle.std.proofs.Common.{arith}
use Rattle.room.proofs.Writing.{writing_start, writing_room, writing_more, writing_end}
use Rattle.text.specs.Number.{show_digits}
use Rattle.text.proofs.Shown.{Lead, lead, digits_long}
use Rattle.text.proofs.inner.put_digits.Goals as goal
use Rattle.text.proofs.inner.put_digits.Goals.{Start, After-power-parts}

pub loop-k-init : goal.loop-k-init
loop-k-init c = record { writing = writing_start _ _ _; below = c.requires.1 }

-- the digit that comes
digit : (c : After-power-parts) → let l = c.loop-k in Lead l.k l.left c.power-parts.result
digit c = let l = c.loop-k in lead l.k l.left c.power-parts.result c.loop-k-test.true c.power-parts.ensures l.invariant.below

-- and its room
room : (c : Start) → let a = c.args in a.at + length (show_digits a.d a.n) ≤ length a.out.now
room c = omega (arith, c.requires.2, digits_long c.args.d c.args.n)

pub put_byte-next-requires : goal.put_byte-next-requires
put_byte-next-requires c =
    let l = c.loop-k in
    let left = (writing_room l.invariant.writing (room (goal.at.put_byte-next-requires c).Start)).0 in
    omega (arith, left, digits_long l.k l.left, c.loop-k-test.true)

pub loop-k-preserved : goal.loop-k-preserved
loop-k-preserved c =
    let l = c.loop-k in
    let q = c.power-parts.result in
    let next = digit (goal.at.loop-k-preserved c).After-power-parts in
    record {
      writing = writing_more ((48 + l.left / q) ∷ []) (show_digits (l.k - 1) (l.left % q))
          (rw next.text at l.invariant.writing) (room (goal.at.loop-k-preserved c).Start) c.put_byte-next.ensures;
      below = next.rest;
    }

pub returns : goal.returns
returns c =
    let none : c.loop-k.k ≡ 0 = omega (arith, c.loop-k-test.false) in
    writing_end (rw none at c.loop-k.invariant.writing)

pub nonzero_div-left : goal.nonzero_div-left
nonzero_div-left c = (digit (goal.at.nonzero_div-left c).After-power-parts).some

pub overflow_cast-left : goal.overflow_cast-left
overflow_cast-left c = omega (arith, (digit (goal.at.overflow_cast-left c).After-power-parts).small)

pub overflow_add-left : goal.overflow_add-left
overflow_add-left c = omega (arith, (digit (goal.at.overflow_add-left c).After-power-parts).small)

pub nonzero_rem-left : goal.nonzero_rem-left
nonzero_rem-left c = (digit (goal.at.nonzero_rem-left c).After-power-parts).some
