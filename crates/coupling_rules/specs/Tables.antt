-- Movements and tracks in one flat table each, column after column, as our own program keeps them: column k is the
-- 50,000 numbers from k · 50,000 on, of which the first n count. Column 0 is the number by which a flight is named.
-- Assumes nothing.
use Rattle.std.specs.Prelude.{ℕ, ◌+◌, ◌*◌, ◌≡◌, List, get_or, take, drop}
use Rattle.coupling_rules.specs.Limits.{max_flights}
use Rattle.coupling_rules.specs.Flights.{Flights, Movements}

abbrev pub column_in : (k n : ℕ) → List ℕ → List ℕ
column_in k n table = take n (drop (k * max_flights) table)

abbrev pub flights_in : List ℕ → ℕ → Flights
flights_in table n = record {
  dates = column_in 1 n table;
  times = column_in 2 n table;
  classes = column_in 3 n table;
  kinds = column_in 4 n table;
  runways = column_in 5 n table;
  airports = column_in 6 n table;
  types = column_in 7 n table;
}

abbrev pub movements_in : List ℕ → ℕ → Movements
movements_in table n = record { flights = flights_in table n; circuits = column_in 8 n table }

-- By look-up: which number of a table says what of flight i
pub record InTable (table : List ℕ) (n i : ℕ) : Type 0 where
  pub date : get_or (movements_in table n).flights.dates i 0 ≡ get_or table (50000 + i) 0
  pub time : get_or (movements_in table n).flights.times i 0 ≡ get_or table (100000 + i) 0
  pub class : get_or (movements_in table n).flights.classes i 0 ≡ get_or table (150000 + i) 0
  pub kind : get_or (movements_in table n).flights.kinds i 0 ≡ get_or table (200000 + i) 0
  pub runway : get_or (movements_in table n).flights.runways i 0 ≡ get_or table (250000 + i) 0
  pub airport : get_or (movements_in table n).flights.airports i 0 ≡ get_or table (300000 + i) 0
  pub type : get_or (movements_in table n).flights.types i 0 ≡ get_or table (350000 + i) 0
  pub circuit : get_or (movements_in table n).circuits i 0 ≡ get_or table (400000 + i) 0
  -- and tracks have the same columns but for the last
  pub track : flights_in table n ≡ (movements_in table n).flights
