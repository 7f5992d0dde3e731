-- `contour::fill::fill_row` meets its contract. Assumes nothing.
use Rattle.std.specs.Prelude.{◌≡◌, ◌+◌, length}
use Rattle.contour.specs.InnerDesk.{pictured}
use Rattle.contour.specs.InnerFill.{Fills}
use Rattle.contour.proofs.fill.fill_row.Given as goal

abbrev pub invariant-loop-col : goal.invariant-loop-col
invariant-loop-col l =
    (length l.list ≡ length l.initial.list)
    × Fills (pictured l.network l.v) l.first (l.first + l.col) l.initial.list l.list
