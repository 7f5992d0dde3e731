-- `grid::put::put_values` meets its contract. The invariant: what is written, and what is left to write. Assumes
-- nothing.
use Rattle.std.specs.Prelude.{drop}
use Rattle.room.proofs.Writing.{Writing}
use Rattle.grid.proofs.WriteLaws.{spaced_of}
use Rattle.grid.proofs.put.put_values.Given as goal

abbrev pub invariant-loop-level : goal.invariant-loop-level
invariant-loop-level l =
    Writing l.initial.out l.initial.at (spaced_of l.level-items) l.out l.at
    (spaced_of (drop l.level-index l.level-items))
