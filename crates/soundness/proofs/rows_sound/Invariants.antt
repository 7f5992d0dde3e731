-- `soundness::rows_sound` meets its contract: what all rows say is what those still to be read say. Assumes nothing.
use mathlib.Core.{Path.◌≡◌, Bool.true}
use Prim.Native.Nat.{◌*◌}
use lib.ListN.{drop}
use Rattle.book_rules.specs.Columns.{cells_sound, rows_sound}
use Rattle.soundness.proofs.rows_sound.Given as goal

abbrev pub invariant-loop-row : goal.invariant-loop-row
invariant-loop-row l =
    let at = l.row * l.points in
    (rows_sound l.points l.ids l.groups l.marks l.counts l.levels
    ≡ rows_sound l.points (drop l.row l.ids) (drop l.row l.groups) (drop l.row l.marks) (drop at l.counts)
    (drop at l.levels))
    × (cells_sound 1 1 (drop at l.counts) (drop at l.levels) ≡ true)
