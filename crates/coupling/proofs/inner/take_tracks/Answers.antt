-- `coupling::inner::take_tracks` meets its contract: the local columns have room for as many flights as there may be.
-- Assumes nothing.
use Rattle.coupling_rules.proofs.Refusing.{flights_shape}
use Rattle.coupling.specs.Columns.{flights_of}
use Rattle.coupling.proofs.inner.take_tracks.Goals as goal

pub assign-requires-clause-n_le_max_flights : goal.assign-requires-clause-n_le_max_flights
assign-requires-clause-n_le_max_flights c =
    (flights_shape (flights_of c.args.tracks) c.requires.tracks_value).few
