-- `soundness::is_sound` meets its contract. Assumes nothing.
use mathlib.Core.Path.{◌≡◌, sym, ◌∙◌}
use mathlib.Core.Bool.{true}
use lib.ListN.{length}
use Rattle.std.proofs.Common.{rules}
use Rattle.book_rules.specs.Columns.{shape_fits}
use Rattle.book_rules.proofs.Shapes.{fitting}
use Rattle.soundness.proofs.Columnwise.{by_columns}
use Rattle.soundness.proofs.is_sound.Goals as goal

pub cells_sound-requires : goal.cells_sound-requires
cells_sound-requires c =
    let a = c.args in
    let e : shape_fits a.points (length a.ids.now) (length a.groups.now) (length a.marks.now) (length a.counts.now)
    (length a.levels.now) ≡ true = search rules in
    let f = fitting _ _ _ _ _ _ e in f.levels= ∙ sym f.counts=

pub rows_sound-requires : goal.rows_sound-requires
rows_sound-requires c =
    let a = c.args in
    let e : shape_fits a.points (length a.ids.now) (length a.groups.now) (length a.marks.now) (length a.counts.now)
    (length a.levels.now) ≡ true = search rules in
    let f = fitting _ _ _ _ _ _ e in
    record {
      groups_len = f.groups=;
      marks_len = f.marks=;
      counts_len = f.counts=;
      levels_len = f.levels=;
      levels_value = search rules;
    }

pub returns-then-cells_sound : goal.returns-then-cells_sound
returns-then-cells_sound c = rw by_columns (search rules)

pub returns-else-cells_sound : goal.returns-else-cells_sound
returns-else-cells_sound c = rw by_columns (search rules)
