-- `column::inner::shift_up` meets its contract. Assumes nothing.
use mathlib.Core.{Path.◌≡◌}
use Rattle.std.specs.Prelude.{◌≤◌, length}
use Rattle.column.proofs.Lists.{back, raised}
use Rattle.column.proofs.inner.shift_up.Given as goal

abbrev pub invariant-loop-left : goal.invariant-loop-left
invariant-loop-left l =
    (l.left ≤ l.count)
    × ((l.tail ≡ back (raised l.count l.w l.initial.tail) l.initial.tail l.w l.left)
    × (length l.tail ≡ length l.initial.tail))
