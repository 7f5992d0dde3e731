-- `wkt::inner::text_size` meets its contract. Assumes nothing.
use Rattle.std.specs.Prelude.{◌≡◌, ◌+◌, ◌*◌, ◌≤◌, length}
use Rattle.wkt.specs.Text.{text_of}
use Rattle.wkt.specs.InnerParts.{Reached, lines_from, left_of}
use Rattle.wkt.proofs.Steps.{ahead}
use Rattle.wkt.proofs.inner.text_size.Given as goal

abbrev pub invariant-loop-at : goal.invariant-loop-at
invariant-loop-at l =
    (length l.piece ≡ 64) × (Reached l.edges l.counts l.closed l.at
    × ((length (text_of l.levels l.frame l.v (lines_from l.edges l.counts l.closed))
    ≡ l.size + length (left_of l.levels l.frame l.v l.edges l.counts l.closed l.at))
    × (l.size + 64 * ahead l.edges l.counts l.at ≤ 64 * (length l.edges + 2 * length l.counts + 3))))

abbrev pub decreases-loop-at : goal.decreases-loop-at
decreases-loop-at l = ahead l.edges l.counts l.at
