-- `flights::read_row` meets its contract. The invariant: every field passed is on its layout, its value is noted, and
-- here the next one starts. Assumes nothing.
use Rattle.std.specs.Prelude.{◌-◌, ◌<◌, ◌≤◌, length}
use mathlib.Core.{Path.◌≡◌, Bool.true}
use Rattle.text.specs.{Index.every}
use Rattle.text.proofs.Fields.{FieldAt}
use Rattle.flights.specs.Cell.{got_at}
use Rattle.flights.specs.Row.{values_of}
use Rattle.flights.proofs.read_row.Given as goal

abbrev pub invariant-loop-v : goal.invariant-loop-v
invariant-loop-v l =
    (every (got_at l.s) l.k ≡ true) × FieldAt 44 l.s l.at l.k × (l.values ≡ values_of l.k l.s) × (l.k < l.count) × (l.count ≤ 9)

abbrev pub decreases-loop-v : goal.decreases-loop-v
decreases-loop-v l = length l.s - l.at
