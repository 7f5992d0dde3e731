-- `grid::store::store_rows` meets its contract. The invariant: what the rest of the rows still changes. Assumes
-- nothing.
use Rattle.std.specs.Prelude.{◌≡◌, ◌-◌, ◌≤◌, length}
use Rattle.room.specs.Room.{front}
use Rattle.grid.specs.Row.{levels_of}
use Rattle.grid.specs.InnerSteps.{lines_at, Rows}
use Rattle.grid.proofs.store.store_rows.Given as goal

abbrev pub invariant-loop-at : goal.invariant-loop-at
invariant-loop-at l =
    Rows l.s l.at l.columns l.south
    × (front (levels_of (lines_at l.s l.from)) l.initial.out ≡ front (levels_of (lines_at l.s l.at)) l.out)
    × (length l.out ≡ length l.initial.out) × (l.south ≤ l.rows)

abbrev pub decreases-loop-at : goal.decreases-loop-at
decreases-loop-at l = length l.s - l.at
