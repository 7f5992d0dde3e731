-- `coupling::inner::couple_columns` meets its contract: the packed columns give the rule's own answers. Assumes
-- nothing.
use mathlib.Core.Path.{sym, subst, ◌∙◌}
use Rattle.coupling_rules.proofs.{Refusing.flights_shape, Refusing.flights_values, Refusing.movements_flights}
use Rattle.coupling_rules.proofs.{Packing.Narrow, Packing.packed_tracks}
use Rattle.coupling_rules.specs.InnerPacked.{Packs}
use Rattle.coupling.specs.declared.columns.Flights.{Flights}
use Rattle.coupling.specs.Columns.{flights_of, movements_of}
use Rattle.coupling.proofs.inner.couple_columns.Goals as goal

narrow : (f : Flights) → Narrow (flights_of f)
narrow f = record { runway = f.runway; type = f.designator }

pub pack-requires-clause-flights_value : goal.pack-requires-clause-flights_value
pack-requires-clause-flights_value c = movements_flights (movements_of c.args.movements) c.requires.movements_value

pub take_tracks-requires-clause-m_le_max_flights : goal.take_tracks-requires-clause-m_le_max_flights
take_tracks-requires-clause-m_le_max_flights c =
    let m = movements_of c.args.movements in
    (flights_shape m.flights (movements_flights m c.requires.movements_value)).few

pub returns : goal.returns
returns c =
    let a = c.args in
    let m = movements_of a.movements in
    let t = flights_of a.tracks in
    let e = c.take_tracks.ensures in
    e.answers
    ∙ packed_tracks m t _ e.tracks (flights_values m.flights (movements_flights m c.requires.movements_value))
    (flights_values t c.requires.tracks_value) (narrow a.movements.flights) (narrow a.tracks)
    (subst (Packs m.flights) (sym c.new-packed.ensures) c.pack.ensures) e.packs
    a.answers.now c.requires.dates_in_bounds
