use Rattle.std.specs.Prelude.{◌≡◌, ◌+◌, ◌<◌}
use mathlib.Core.Path.{refl, sym, ◌∙◌}
use native.Mathlib.Omega.{arith}
use lib.{ListN.length, ListN.take, ListN.set, ListN.length-set, Seq.take-length}
use Rattle.room.specs.Room.{put}
use Rattle.room.proofs.Laws.{put_step, wrote_none}
use Rattle.grid.specs.Row.{row_levels}
use Rattle.grid.proofs.ValueLaws.{end_within}
use Rattle.grid.proofs.StoreLaws.{store_start, store_here, store_room, store_next, store_last}
use Rattle.grid.proofs.StoreLaws.{length_levels}
use Rattle.grid.proofs.store.store_row.Goals as goal
use Rattle.grid.proofs.store.store_row.Goals.{After-level_in}

-- there is room for value i, and its level is what is stored
room : (c : After-level_in)
    → c.args.to + c.loop-to.i < length
    c.args.out.now
room c =
    let r = store_room c.loop-to.invariant.1 c.field_end-end.result
    c.field_end-end.ensures in
    omega (arith, c.requires, length_levels c.args.s.now)

stored : (c : After-level_in)
    → let a = c.args in let l = c.loop-to in
    set l.out (a.to + l.i) c.level_in.result ≡ put a.out.now a.to
    (take (l.i + 1) (row_levels a.s.now))
stored c =
    let a = c.args in
    let l = c.loop-to in
    let end = c.field_end-end in
    let level = c.level_in.ensures ∙ sym (store_here l.invariant.1 end.result end.ensures) in
    rw (l.invariant.0, level) (put_step a.out.now a.to (row_levels a.s.now) l.i
    (store_room l.invariant.1 end.result end.ensures) (room c))

pub overflow_add-i : goal.overflow_add-i
overflow_add-i c = omega (arith, c.loop-to.invariant.1.few, c.loop-to.invariant.1.within)

pub shape_of-out-then-s-end : goal.shape_of-out-then-s-end
shape_of-out-then-s-end c =
    length-set c.loop-to.out _ _ ∙ c.loop-to.invariant.2

pub returns-then-s-end : goal.returns-then-s-end
returns-then-s-end c =
    let l = c.loop-to in
    let end = c.field_end-end in
    let levels = row_levels c.args.s.now in
    let all = store_last l.invariant.1 end.result end.ensures c.if-s-end.true in
    stored (goal.at.returns-then-s-end c).After-level_in ∙ rw (all, take-length levels)

pub loop-to-preserved : goal.loop-to-preserved
loop-to-preserved c =
    let l = c.loop-to in
    let end = c.field_end-end in (
      stored (goal.at.loop-to-preserved c).After-level_in,
      store_next l.invariant.1 end.result end.ensures c.if-s-end.false,
      length-set l.out _ _
          ∙ l.invariant.2,
    )

pub loop-to-init : goal.loop-to-init
loop-to-init c = ((wrote_none _ _).bytes, store_start _, refl)

pub field_end-end-requires : goal.field_end-end-requires
field_end-end-requires c = c.loop-to.invariant.1.within

pub slice_bounds-level_in-end : goal.slice_bounds-level_in-end
slice_bounds-level_in-end c = end_within _ _ _ c.loop-to.invariant.1.within c.field_end-end.ensures

pub overflow_add-out : goal.overflow_add-out
overflow_add-out c = omega (arith, room c, c.well_formed.1.0.0)

pub offset_bounds-out-to : goal.offset_bounds-out-to
offset_bounds-out-to c = omega (arith, room c, c.well_formed.1.0.1)

pub bounds-out-to : goal.bounds-out-to
bounds-out-to c = omega (arith, room c, c.loop-to.invariant.2)

pub loop-to-smaller : goal.loop-to-smaller
loop-to-smaller c = omega (arith, c.field_end-end.ensures)
