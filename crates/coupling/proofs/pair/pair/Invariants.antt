-- `coupling::pair::pair` meets its contract. The loop's invariant: the tracks that are free stand in the two lists, and
-- what the rest of the turns makes of the answers so far is the whole. Assumes nothing.
use mathlib.Core.{Path.◌≡◌}
use Rattle.std.specs.Prelude.{◌+◌, ◌≤◌}
use lib.{ListN.length}
use Rattle.coupling_rules.specs.Rule.{couple, places}
use Rattle.coupling_rules.specs.InnerPacked.{moment_in, rank_in}
use Rattle.coupling_rules.proofs.{Loops.Mid}
use Rattle.coupling.specs.InnerTurn.{packed_of, gaps_of}
use Rattle.coupling.proofs.pair.pair.Given as goal

abbrev pub invariant-loop-i : goal.invariant-loop-i
invariant-loop-i l =
    let t = packed_of l.tracks in
    let m = packed_of l.movements.packed in
    let g = gaps_of t l.movements in
    (l.at ≤ length l.order)
    × ((length l.order ≤ l.top + l.at)
    × ((l.top ≤ length l.stack)
    × ((length l.stack ≡ length l.initial.stack)
    × ((length l.answers ≡ length l.initial.answers)
    × Mid (rank_in t) (moment_in t) (rank_in m) g l.turns l.order
    (couple g (moment_in t) l.turns (places (length l.order)) l.initial.answers) l.i-index l.at l.top l.stack l.answers))))
