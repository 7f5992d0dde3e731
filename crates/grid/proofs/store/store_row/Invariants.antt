-- `grid::store::store_row` meets its contract. The invariant: the levels passed are stored, and here the next value
-- starts. Assumes nothing.
use Rattle.std.specs.Prelude.{◌≡◌, ◌-◌}
use lib.{ListN.length, ListN.take}
use Rattle.room.specs.Room.{put}
use Rattle.grid.specs.Row.{row_levels}
use Rattle.grid.proofs.StoreLaws.{StoreAt}
use Rattle.grid.proofs.store.store_row.Given as goal

abbrev pub invariant-loop-to : goal.invariant-loop-to
invariant-loop-to l =
    (l.out ≡ put l.initial.out l.to (take l.i (row_levels l.s))) × StoreAt l.s l.at l.i
    × (length l.out ≡ length l.initial.out)

abbrev pub decreases-loop-to : goal.decreases-loop-to
decreases-loop-to l = length l.s - l.at
