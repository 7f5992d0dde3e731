use Rattle.std.specs.Prelude.{◌≡◌, ◌+◌, ◌<◌, ◌++◌, length}
use Rattle.std.proofs.Common.{arith, length-append}
use Rattle.text.specs.{Field.joined_by, Index.listing}
use Rattle.room.proofs.Laws.{wrote_then, wrote_none}
use Rattle.register.specs.{Cell.cell_text, InnerCell.top_of, Write.text_at, Write.show_line, InnerCell.comma_at}
use Rattle.register.proofs.{Columns.text_most, Writes.joined-more, Writes.comma_most}
use Rattle.register.proofs.write.put_line.Goals as goal
use Rattle.register.proofs.write.put_line.Goals.{After-value_at-v}

-- the value of this column has a text
below : (c : After-value_at-v) → c.value_at-v.result < top_of c.loop-k.k
below c = rw c.value_at-v.ensures (c.requires.0.below c.loop-k.k c.loop-k-test.true)

pub put_field-at-requires : goal.put_field-at-requires
put_field-at-requires c = (
  below (goal.at.put_field-at-requires c).After-value_at-v,
  omega (arith, c.loop-k.invariant.within, c.requires.0.few, c.requires.1, c.loop-k-test.true),
)

pub loop-k-preserved : goal.loop-k-preserved
loop-k-preserved c =
    let a = c.args in
    let l = c.loop-k in
    let v = c.value_at-v in
    let piece = comma_at l.k ++ cell_text a.f.computed l.k v.result in
    let few = c.requires.0.few in
    let most = text_most a.f.computed l.k v.result (below (goal.at.loop-k-preserved c).After-value_at-v) in
    let comma = comma_most l.k in
    let long = length-append (comma_at l.k) (cell_text a.f.computed l.k v.result) in
    let here = l.invariant.wrote.place in
    let all = length-append (joined_by 44 (listing (text_at a.f a.levels.now) l.k)) piece in
    record {
      wrote = rw (joined-more (text_at a.f a.levels.now) l.k, ← v.ensures)
          (wrote_then (omega (arith, l.invariant.within, c.requires.1, c.loop-k-test.true)) l.invariant.wrote
          c.put_field-at.ensures);
      within = omega (arith, c.put_field-at.ensures.place, l.invariant.within);
    }

pub returns : goal.returns
unfolding show_line
returns c =
    let l = c.loop-k in
    let e : l.k ≡ 5 + length c.args.levels.now = omega (arith, c.loop-k-test.false) in
    (rw e at l.invariant.wrote, omega (arith, l.invariant.within, c.requires.0.few))

pub loop-k-init : goal.loop-k-init
loop-k-init c = unfold listing joined_by in record { wrote = wrote_none _ 0; within = omega arith }
