-- `grid::size::levels_size` meets its contract. The invariant: what is added up, and what the rest adds. Assumes
-- nothing.
use Rattle.std.specs.Prelude.{◌≡◌, ◌+◌, ◌*◌, ◌≤◌, length, drop}
use Rattle.grid.specs.InnerSteps.{sizes_of}
use Rattle.grid.proofs.size.levels_size.Given as goal

abbrev pub invariant-loop-level : goal.invariant-loop-level
invariant-loop-level l =
    (l.total + sizes_of (drop l.level-index l.levels) ≡ sizes_of l.levels) × (l.total ≤ 8 * l.level-index)
    × (l.level-index ≤ length l.levels)
