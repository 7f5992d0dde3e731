use mathlib.Core.{Path.◌≡◌, Path.sym, Path.subst, Path.ap, Path.◌∙◌, List.◌++◌}
use lib.{ListN.length, ListN.drop, ListN.length-append, ListN.length-drop, Seq.length-take-le}
use Rattle.room.specs.Room.{Wrote}
use Rattle.grid.specs.InnerSteps.{ended, Quiet}
use Rattle.room.proofs.Writing.{Writing, writing_start, writing_room, writing_more, writing_end}
use Rattle.grid.proofs.WriteLaws.{row_inside, part_row, quiet_part, rows_more, rows_none}
use Rattle.std.specs.Prelude.{◌+◌, ◌-◌, ◌*◌, ◌≤◌}
use native.Mathlib.Omega.{arith}
use Rattle.grid.specs.Write.{row_line, row_at, row_lines, text_of}
use Rattle.grid.proofs.put.put_rows.Goals as goal
use Rattle.grid.proofs.put.put_rows.Goals.{In-loop-row}

-- the row stands among the levels
inside : (c : In-loop-row) → let a = c.args in
    (c.loop-row.row - 1) * a.columns + a.columns ≤ length a.levels.now
inside c =
    row_inside c.args.levels.now c.args.columns c.args.rows c.loop-row.row c.requires.0
    c.loop-row-test.true c.loop-row.auto.row

-- what is left begins with its line
next : (c : In-loop-row) → let a = c.args in
    let l = c.loop-row in
    Writing a.out.now a.from (text_of (row_lines a.columns a.levels.now a.rows)) l.out l.at
    (ended (row_line (row_at a.columns a.levels.now (l.row - 1)))
    ++ text_of (row_lines a.columns a.levels.now (l.row - 1)))
next c = let a = c.args in
    rw (← rows_more a.columns a.levels.now c.loop-row.row c.loop-row-test.true)
    c.loop-row.invariant

pub put_row-at-requires : goal.put_row-at-requires
put_row-at-requires c =
    let l = c.loop-row in
    let levels = c.args.levels.now in
    let columns = c.args.columns in
    let start = (l.row - 1) * columns in
    let e = part_row levels start columns in
    let n : length (row_at columns levels (l.row - 1)) ≡ columns =
    length-take-le columns (drop start levels)
    (omega (arith, inside (goal.at.put_row-at-requires c).In-loop-row, length-drop start levels)) in
    let line = ended (row_line (row_at columns levels (l.row - 1))) in (
      omega (arith, ap length e, n, c.requires.0.sides.wide),
      subst Quiet (sym e) (quiet_part levels start columns c.requires.1
          (inside (goal.at.put_row-at-requires c).In-loop-row)),
      omega (
        arith,
        ap (λ t. length (ended (row_line t))) e,
        (writing_room (next (goal.at.put_row-at-requires c).In-loop-row) c.requires.2).0,
        length-append line (text_of (row_lines columns levels (l.row - 1))),
      ),
    )

pub loop-row-preserved : goal.loop-row-preserved
loop-row-preserved c =
    let l = c.loop-row in
    let levels = c.args.levels.now in
    let columns = c.args.columns in
    let p = c.put_row-at in
    let wrote = subst (λ t. Wrote l.out l.at (ended (row_line t)) p.new.out p.result)
    (part_row levels ((l.row - 1) * columns) columns) p.ensures in
    writing_more (ended (row_line (row_at columns levels (l.row - 1))))
    (text_of (row_lines columns levels (l.row - 1))) (next (goal.at.loop-row-preserved c).In-loop-row)
    c.requires.2 wrote

pub returns : goal.returns
returns c =
    let l = c.loop-row in
    let none : l.row ≡ 0 = omega (arith, c.loop-row-test.false) in
    let e = ap (λ n. text_of (row_lines c.args.columns c.args.levels.now n)) none
    ∙ rows_none c.args.columns c.args.levels.now in
    writing_end (rw e at l.invariant)

pub loop-row-init : goal.loop-row-init
loop-row-init c = writing_start _ _ _
