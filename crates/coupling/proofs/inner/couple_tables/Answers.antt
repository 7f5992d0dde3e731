-- `coupling::inner::couple_tables` meets its contract: each column of the movements is its part of the table. Assumes
-- nothing.
use mathlib.Core.{Path.◌≡◌, Path.sym, Path.ap, Path.subst, Path.◌∙◌, Bool.true}
use Rattle.std.specs.Prelude.{length, drop}
use lib.ListN.{length-take}
use native.Mathlib.Omega.{arith}
use Rattle.room.specs.Room.{front}
use Rattle.coupling_rules.specs.Flights.{Flights, Movements}
use Rattle.coupling_rules.specs.{Rule.tracks_for, Refusals.movements_fit, Refusals.flights_fit}
use Rattle.coupling_rules.specs.Tables.{movements_in}
use Rattle.coupling.specs.Columns.{flights_of}
use Rattle.coupling.proofs.Answering.{same_movements}
use Rattle.coupling.proofs.inner.couple_tables.Goals as goal

pub couple_columns-requires : goal.couple_columns-requires
couple_columns-requires c =
    let a = c.args in
    let m = same_movements c.flights.ensures c.column.ensures in
    record {
      movements_value = subst (λ (m : Movements). movements_fit m ≡ true) (sym m) c.requires.m_value;
      tracks_value = subst (λ (t : Flights). flights_fit t ≡ true) (sym c.flights-2.ensures) c.requires.n_value;
      dates_in_bounds =
          omega (
            arith,
            ap (λ (f : Flights). length f.dates) c.flights.ensures,
            length-take a.m (drop 50000 a.movements.now),
            c.requires.m_in_bounds,
          );
    }

pub returns : goal.returns
returns c =
    let a = c.args in
    let m = same_movements c.flights.ensures c.column.ensures in
    c.couple_columns.ensures
    ∙ ap (λ (t : Movements). front (tracks_for t (flights_of c.flights-2.result)) a.answers.now) m
    ∙ ap (λ (t : Flights). front (tracks_for (movements_in a.movements.now a.m) t) a.answers.now) c.flights-2.ensures
