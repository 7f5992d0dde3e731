-- `contour::fill::fill_rows` meets its contract. Assumes nothing.
use Rattle.std.specs.Prelude.{◌≡◌, length}
use Rattle.network.specs.Edges.{number_of}
use Rattle.contour.specs.InnerDesk.{pictured}
use Rattle.contour.specs.InnerFill.{edge_in, Fills}
use Rattle.contour.proofs.fill.fill_rows.Given as goal

abbrev pub invariant-loop-row : goal.invariant-loop-row
invariant-loop-row l = (l.n ≡ number_of l.network.nx l.network.ny (edge_in l.up l.row 0))
    × ((length l.list ≡ length l.initial.list)
    × Fills (pictured l.network l.v) l.first l.n l.initial.list l.list)
