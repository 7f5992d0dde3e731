-- `coupling::turn::run_end` meets its contract. The loop's invariant: what was settled and what of the run is still to
-- come make the whole run. Assumes nothing.
use Rattle.std.specs.Prelude.{◌≡◌, ◌+◌, drop}
use Rattle.coupling_rules.specs.InnerSides.{leading}
use Rattle.coupling_rules.specs.InnerPacked.{rank_in}
use Rattle.coupling.specs.InnerTurn.{packed_of, rank_of}
use Rattle.coupling.proofs.turn.run_end.Given as goal

abbrev pub invariant-loop-e : goal.invariant-loop-e
invariant-loop-e l =
    let rank = rank_in (packed_of l.tracks) in
    let q = rank_of l.first in
    l.e + leading rank q (drop l.e l.order) ≡ l.at + leading rank q (drop l.at l.order)
