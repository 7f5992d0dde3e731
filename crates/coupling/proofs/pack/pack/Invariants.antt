-- `coupling::pack::pack` meets its contract. The loop's invariant: the columns are of one length, and the first places
-- of each packed one are filled. Assumes nothing.
use Rattle.std.specs.Prelude.{ℕ, get_or}
use Rattle.coupling_rules.specs.Rule.{moment}
use Rattle.coupling_rules.specs.InnerPacked.{high_of, low_of, Filled}
use Rattle.coupling_rules.proofs.Refusing.{Shape}
use Rattle.coupling.specs.Columns.{flights_of}
use Rattle.coupling.proofs.pack.pack.Given as goal

abbrev pub invariant-loop-i : goal.invariant-loop-i
invariant-loop-i l =
    let f = l.flights in
    Shape (flights_of f)
    × (Filled (λ (k : ℕ). high_of (get_or f.airports.now k 0) (get_or f.types.now k 0)) l.i l.highs
    × (Filled (λ (k : ℕ). low_of (get_or f.runways.now k 0) (get_or f.classes.now k 0) (get_or f.kinds.now k 0)) l.i
    l.lows
    × Filled (λ (k : ℕ). moment (get_or f.dates.now k 0) (get_or f.times.now k 0)) l.i l.moments))
