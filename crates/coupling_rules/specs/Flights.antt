-- Movements and radar tracks as columns of numbers: RULES, "Radar tracks". Assumes nothing.
use Rattle.std.specs.Prelude.{ℕ, List, length}
use Rattle.std.specs.Borrow.{Bor}
use Rattle.room.specs.Lent.{Lent}

-- seven columns, a number each for one flight: date (year·10000 + month·100 + day), second of that day, class (0
-- aeroplane, 1 helicopter), kind (0 start, 1 landing), runway, airport and type designator
pub record Flights : Type 0 where
  pub dates : List ℕ
  pub times : List ℕ
  pub classes : List ℕ
  pub kinds : List ℕ
  pub runways : List ℕ
  pub airports : List ℕ
  pub types : List ℕ

-- movements have an eighth: any number but 0 is a circuit
pub record Movements : Type 0 where
  pub flights : Flights
  pub circuits : List ℕ

-- how many there are
abbrev pub many : Flights → ℕ
many f = length f.dates

-- the flights of seven lent columns
abbrev pub flights_now : (dates times classes kinds runways airports types : Bor (List ℕ)) → Flights
flights_now ds ts cs ks rs ps ys = record {
  dates = ds.now;
  times = ts.now;
  classes = cs.now;
  kinds = ks.now;
  runways = rs.now;
  airports = ps.now;
  types = ys.now;
}

abbrev pub movements_now : (dates times classes kinds runways airports types circuits : Bor (List ℕ)) → Movements
movements_now ds ts cs ks rs ps ys os = record { flights = flights_now ds ts cs ks rs ps ys; circuits = os.now }

-- and before a call
abbrev pub flights_before : (dates times classes kinds runways airports types : Lent) → Flights
flights_before ds ts cs ks rs ps ys =
    flights_now ds.entry ts.entry cs.entry ks.entry rs.entry ps.entry ys.entry

abbrev pub movements_before : (dates times classes kinds runways airports types circuits : Lent) → Movements
movements_before ds ts cs ks rs ps ys os =
    record { flights = flights_before ds ts cs ks rs ps ys; circuits = os.entry.now }
