use mathlib.Core.{Path.◌≡◌, Path.refl, Path.sym, Path.ap, Path.◌∙◌, Bool.Bool, Bool.◌&&◌}
use Prim.Native.Nat.{◌+◌, ◌*◌}
use lib.ListN.{drop}
use Rattle.book_rules.specs.Columns.{cells_sound, rows_sound}
use Rattle.book_rules.proofs.Scans.{room_next, rows_more, rows_end}
use Rattle.soundness.proofs.Columnwise.{cells_row}
use Rattle.soundness.proofs.rows_sound.Goals as goal
use Rattle.soundness.proofs.rows_sound.Goals.{After-row_sound}

pub row_sound-requires : goal.row_sound-requires
row_sound-requires c =
    let a = c.args in
    (cells_row a.points (c.loop-row.row * a.points) a.counts.now a.levels.now c.loop-row.invariant.1).0

-- what the rows say from here on, where this row's test gave t
next : (c : After-row_sound) {t : Bool} → c.row_sound.result ≡ t
    → let a = c.args in let after = c.loop-row.row + 1 in
    rows_sound a.points a.ids.now a.groups.now a.marks.now a.counts.now a.levels.now
    ≡ (t && rows_sound a.points (drop after a.ids.now) (drop after a.groups.now) (drop after a.marks.now)
    (drop (after * a.points) a.counts.now) (drop (after * a.points) a.levels.now))
next c {t} e =
    let a = c.args in
    let row = c.loop-row.row in
    c.loop-row.invariant.0
    ∙ rows_more a.points a.ids.now a.groups.now a.marks.now a.counts.now a.levels.now row (row * a.points)
    c.loop-row-test.true c.requires.groups_len c.requires.marks_len (sym e ∙ c.row_sound.ensures)
    ∙ ap (λ at. t && rows_sound a.points (drop (row + 1) a.ids.now) (drop (row + 1) a.groups.now)
    (drop (row + 1) a.marks.now) (drop at a.counts.now) (drop at a.levels.now))
    (room_next a.points row (row * a.points) refl)

pub returns-then-not-row_sound : goal.returns-then-not-row_sound
returns-then-not-row_sound c =
    sym (next (goal.at.returns-then-not-row_sound c).After-row_sound c.if-not-row_sound.true)

pub loop-row-preserved : goal.loop-row-preserved
loop-row-preserved c =
    let a = c.args in
    let row = c.loop-row.row in (
      next (goal.at.loop-row-preserved c).After-row_sound c.if-not-row_sound.false,
      ap (λ at. cells_sound 1 1 (drop at a.counts.now) (drop at a.levels.now))
          (sym (room_next a.points row (row * a.points) refl))
          ∙ (cells_row a.points (row * a.points) a.counts.now a.levels.now c.loop-row.invariant.1).1,
    )

pub returns : goal.returns
returns c =
    sym (c.loop-row.invariant.0 ∙ rows_end c.args.points c.args.ids.now _ _ _ _ c.loop-row.row c.loop-row-test.false)
