use native.Mathlib.{Nat.mul-le-mul_right, Omega.arith}
use Rattle.std.specs.Prelude.{◌+◌, ◌-◌, ◌*◌, ◌≤◌, length}
use mathlib.Core.Path.{refl, sym, ap, ◌∙◌}
use Rattle.room.specs.Room.{front, put}
use Rattle.grid.specs.Row.{values_of, row_levels, levels_of}
use Rattle.grid.specs.InnerSteps.{lines_at}
use Rattle.grid.proofs.StoreLaws.{values_here, left_here, rows_left, place_room, front_here, front_end}
use Rattle.grid.proofs.store.store_rows.Goals as goal
use Rattle.grid.proofs.store.store_rows.Goals.{After-line_at-line}

pub loop-at-init : goal.loop-at-init
loop-at-init c = (c.requires.0, refl, refl, omega arith)

-- this row is one of those left
among : (c : After-line_at-line) → 1 ≤ c.loop-at.south
among c = omega (arith, left_here _ _ _ _ c.loop-at.invariant.0 c.loop-at-test.true)

-- its place, and the room for its levels
room : (c : After-line_at-line) → (c.loop-at.south - 1) * c.args.columns + c.args.columns ≤ length c.loop-at.out
room c =
    place_room (c.loop-at.south - 1) c.args.columns c.args.rows (length c.loop-at.out)
    (omega (arith, among c, c.loop-at.invariant.3)) (omega (arith, c.requires.1, c.loop-at.invariant.2))

pub overflow_sub-south : goal.overflow_sub-south
overflow_sub-south c = among c

pub overflow_mul-south : goal.overflow_mul-south
overflow_mul-south c =
    let within = room (goal.at.overflow_mul-south c).After-line_at-line in
    omega (arith, within, c.loop-at.invariant.2, c.well_formed.1.1.1.1.0.0)

pub store_row-requires : goal.store_row-requires
store_row-requires c =
    let n = ap (λ t. length (values_of t)) c.line_at-line.ensures.line
    ∙ values_here _ _ _ _ c.loop-at.invariant.0 c.loop-at-test.true in
    rw n (room (goal.at.store_row-requires c).After-line_at-line)

pub loop-at-smaller : goal.loop-at-smaller
loop-at-smaller c =
    let l = c.line_at-line.ensures in
    let h = c.loop-at-test.true in
    omega (arith, l.moves h, l.passed.inside, h)

pub loop-at-preserved : goal.loop-at-preserved
loop-at-preserved c =
    let s = c.args.s.now in
    let columns = c.args.columns in
    let l = c.loop-at in
    let line = c.line_at-line in
    let h = c.loop-at-test.true in
    let next = levels_of (lines_at s line.result.next) in
    let stored = c.store_row.ensures
    ∙ ap (λ t. put l.out ((l.south - 1) * columns) (row_levels t)) line.ensures.line in
    let fits = mul-le-mul_right {m = l.south} {n = c.args.rows} columns l.invariant.3 in (
      rows_left _ _ _ _ l.invariant.0 h line.result line.ensures,
      l.invariant.1
          ∙ front_here _ _ _ _ l.invariant.0 h line.result line.ensures l.out
          (omega (arith, c.requires.1, l.invariant.2))
          ∙ ap (front next) (sym stored),
      c.store_row.auto.out ∙ l.invariant.2,
      omega (arith, l.invariant.3),
    )

pub returns : goal.returns
returns c =
    let a = c.args in
    sym (c.loop-at.invariant.1
    ∙ front_end a.s.now c.loop-at.at c.loop-at.out c.loop-at-test.false)

pub line_at-line-requires : goal.line_at-line-requires
line_at-line-requires c = c.loop-at.invariant.0.inside

pub slice_bounds-store_row-count : goal.slice_bounds-store_row-count
slice_bounds-store_row-count c = c.line_at-line.ensures.start

pub slice_bounds-store_row-start : goal.slice_bounds-store_row-start
slice_bounds-store_row-start c = c.line_at-line.ensures.start

pub slice_bounds-store_row-end : goal.slice_bounds-store_row-end
slice_bounds-store_row-end c = c.line_at-line.ensures.within

pub shape_of-out : goal.shape_of-out
shape_of-out c = c.loop-at.invariant.2
