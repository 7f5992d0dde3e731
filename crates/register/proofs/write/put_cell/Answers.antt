-- `register::write::put_cell` meets its contract: each column by its own writer. Assumes nothing.
use Rattle.std.specs.Prelude.{◌<◌, ◌≤◌}
use Rattle.std.proofs.Common.{arith}
use Rattle.room.proofs.Laws.{wrote_none}
use Rattle.text.proofs.Shown.{level_most, shown_width}
use Rattle.register.specs.{Cell.shown_cell, InnerCell.top_of}
use Rattle.register.proofs.Columns.{text_blank, text_marked, text_head, shown_level, top_level_lem}
use Rattle.register.proofs.Writes.{whole_column}
use Rattle.register.proofs.write.put_cell.Goals as goal

pub put_whole-requires : goal.put_whole-requires
put_whole-requires c =
    let a = c.args in
    let w = whole_column a.k a.v (grind arith) (grind arith) (grind arith) (grind arith) in
    let below : a.v < 10000000 = omega (arith, w.1, c.requires.0) in
    (below, omega (arith, c.requires.1, shown_width 7 6 a.v below))

pub returns-in-0 : goal.returns-in-0
returns-in-0 c =
    let a = c.args in
    let few : a.k < 5 = grind arith in
    let w = whole_column a.k a.v few (grind arith) (grind arith) (grind arith) in
    rw (text_head a.mark a.k a.v few, w.0) c.put_whole.ensures

pub put_letter-requires : goal.put_letter-requires
unfolding top_of
put_letter-requires c =
    let below : c.args.v < top_of 1 = rw c.in-1.is at c.requires.0 in (below, omega (arith, c.requires.1))

pub returns-in-1 : goal.returns-in-1
unfolding shown_cell
returns-in-1 c = let a = c.args in rw (text_head a.mark a.k a.v (omega arith), c.in-1.is) c.put_letter.ensures

pub put_letter-requires-in-3 : goal.put_letter-requires-in-3
unfolding top_of
put_letter-requires-in-3 c =
    let below : c.args.v < top_of 3 = rw c.in-3.is at c.requires.0 in (below, omega (arith, c.requires.1))

pub returns-in-3 : goal.returns-in-3
unfolding shown_cell
returns-in-3 c = let a = c.args in rw (text_head a.mark a.k a.v (omega arith), c.in-3.is) c.put_letter-in-3.ensures

pub put_time-requires : goal.put_time-requires
unfolding top_of
put_time-requires c =
    let below : c.args.v < top_of 4 = rw c.in-4.is at c.requires.0 in (below, omega (arith, c.requires.1))

pub returns-in-4 : goal.returns-in-4
unfolding shown_cell
returns-in-4 c = let a = c.args in rw (text_head a.mark a.k a.v (omega arith), c.in-4.is) c.put_time.ensures

pub returns-in_default : goal.returns-in_default
returns-in_default c =
    let a = c.args in rw (text_blank a.mark a.k a.v (grind arith) c.if-mark-eq0.true) (wrote_none _ _)

pub put_level-requires : goal.put_level-requires
put_level-requires c =
    let a = c.args in
    let below : a.v < 100000 = omega (arith, c.requires.0, top_level_lem a.k (grind arith)) in
    (below, omega (arith, c.requires.1, level_most a.v below))

pub returns-in_default-2 : goal.returns-in_default-2
returns-in_default-2 c =
    let a = c.args in
    let level : 5 ≤ a.k = grind arith in
    rw (text_marked a.mark a.k a.v c.if-mark-eq0.false, shown_level a.k level a.v) c.put_level.ensures
