-- What lent columns hold. Assumes nothing.
use Rattle.coupling_rules.specs.{Flights.Flights, Flights.Movements}
use Rattle.coupling.specs.declared.columns.{Flights.Flights as FlightColumns, Movements.Movements as MovementColumns}

abbrev pub flights_of : FlightColumns → Flights
flights_of f = record {
  dates = f.dates.now;
  times = f.times.now;
  classes = f.classes.now;
  kinds = f.kinds.now;
  runways = f.runways.now;
  airports = f.airports.now;
  types = f.types.now;
}

abbrev pub movements_of : MovementColumns → Movements
movements_of m = record { flights = flights_of m.flights; circuits = m.circuits.now }
