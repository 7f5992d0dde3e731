-- What the coupling refuses: RULES, "Radar tracks". Assumes nothing.
use Rattle.std.specs.Prelude.{ℕ, Bool, true, ◌&&◌, List, [], ◌∷◌, eqb, leb, length}
use Rattle.refusal.specs.Refuse.{refuse}
use Rattle.refusal.specs.Range.{all_within}
use Rattle.date.specs.Calendar.{date_exists}
use Rattle.coupling_rules.specs.Limits.{max_flights}
use Rattle.coupling_rules.specs.Flights.{Flights, Movements, many}

-- every date exists
unfoldable pub all_exist : List ℕ → Bool
all_exist [] = true
all_exist (d ∷ ds) = date_exists d && all_exist ds

-- no more than there may be, and columns of one length
unfoldable pub shape_fits : Flights → Bool
shape_fits f =
    leb (many f) max_flights
    && (eqb (length f.times) (many f)
    && (eqb (length f.classes) (many f)
    && (eqb (length f.kinds) (many f)
    && (eqb (length f.runways) (many f)
    && (eqb (length f.airports) (many f) && eqb (length f.types) (many f))))))

-- dates that exist, seconds of a day, classes and kinds 0 or 1
unfoldable pub values_fit : Flights → Bool
values_fit f =
    all_exist f.dates && (all_within 86399 f.times && (all_within 1 f.classes && all_within 1 f.kinds))

unfoldable pub flights_fit : Flights → Bool
flights_fit f = shape_fits f && values_fit f

unfoldable pub movements_fit : Movements → Bool
movements_fit m = flights_fit m.flights && eqb (length m.circuits) (many m.flights)

-- 18, of the movements or of the tracks; 14 follows it where room is lent
unfoldable pub couple_refusal : Movements → Flights → ℕ
couple_refusal m t = refuse 18 (movements_fit m && flights_fit t) 0
