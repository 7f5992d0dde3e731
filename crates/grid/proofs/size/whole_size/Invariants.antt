-- `grid::size::whole_size` meets its contract. The invariant: a digit fewer is left for each one counted. Assumes
-- nothing.
use Rattle.std.specs.Prelude.{◌≡◌, ◌+◌, ◌≤◌, length}
use Rattle.text.specs.Number.{show_whole}
use Rattle.grid.proofs.size.whole_size.Given as goal

abbrev pub invariant-loop-left : goal.invariant-loop-left
invariant-loop-left l = (length (show_whole l.n) + 1 ≡ length (show_whole l.left) + l.size) × (l.left ≤ l.n)

abbrev pub decreases-loop-left : goal.decreases-loop-left
decreases-loop-left l = l.left
