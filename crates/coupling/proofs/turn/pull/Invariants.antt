-- `coupling::turn::pull` meets its contract. The loop's invariant: whatever was free stands in the two lists as they
-- are now, and nothing before the movement's rank was settled by. Assumes nothing.
use mathlib.Core.{Path.◌≡◌, List.List}
use Rattle.std.specs.Prelude.{ℕ, ◌-◌, ◌≤◌}
use lib.{ListN.length, ListN.drop}
use Rattle.coupling_rules.specs.InnerSides.{Split, Below}
use Rattle.coupling_rules.specs.InnerPacked.{rank_in}
use Rattle.coupling.specs.InnerTurn.{packed_of, rank_of}
use Rattle.coupling.proofs.turn.pull.Given as goal

abbrev pub invariant-loop-r : goal.invariant-loop-r
invariant-loop-r l =
    let rank = rank_in (packed_of l.tracks) in
    let top' = l.top - (l.r - l.at) in
    (l.at ≤ l.r)
    × ((l.r ≤ length l.order)
    × ((length l.stack ≡ length l.initial.stack)
    × (((free : List ℕ) → Split rank free (drop l.top l.initial.stack) (drop l.at l.order)
    → Split rank free (drop top' l.stack) (drop l.r l.order))
    × (Below rank (rank_of l.w.rank) (drop l.top l.initial.stack) → Below rank (rank_of l.w.rank) (drop top' l.stack)))))

abbrev pub decreases-loop-r : goal.decreases-loop-r
decreases-loop-r l =
    length l.order - l.r
