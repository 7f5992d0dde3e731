-- `wkt::inner::print_part` meets its contract. Assumes nothing.
use Rattle.wkt.proofs.{Steps.ahead}
use Rattle.wkt.proofs.Rooms.{Come}
use Rattle.wkt.proofs.inner.print_part.Given as goal

abbrev pub invariant-loop-at : goal.invariant-loop-at
invariant-loop-at l =
    Come l.levels l.frame l.v l.edges l.counts l.closed l.initial.at l.initial.room l.room l.piece l.at l.size

abbrev pub decreases-loop-at : goal.decreases-loop-at
decreases-loop-at l = ahead l.edges l.counts l.at
