-- `coupling::couple` meets its contract: nothing is written before 18 and 14 are found not to hold. Assumes nothing.
use Rattle.std.proofs.Common.{rules, arith, refl, ◌≡◌}
use Rattle.std.specs.Prelude.{length, nat_le}
use Rattle.refusal.specs.Refusal.{told}
use Rattle.refusal.proofs.Laws.{numbered}
use Rattle.room.specs.Room.{then_room}
use Rattle.coupling_rules.specs.{Rule.tracks_for, Refusals.couple_refusal}
use Rattle.coupling_rules.proofs.Packing.{length_tracks}
use Rattle.coupling.specs.Columns.{flights_of, movements_of}
use Rattle.coupling.proofs.Answering.{all_fits, answered, refused}
use Rattle.coupling.proofs.couple.Goals as goal

pub returns-in_err-refusal : goal.returns-in_err-refusal
returns-in_err-refusal c =
    let a = c.args in
    let m = movements_of a.movements in
    let t = flights_of a.tracks in
    let n = length a.movements.flights.dates.now in
    let e : told c.from_residual.result ≡ then_room (couple_refusal m t) (nat_le n (length a.room.now)) = search rules in
    refused (couple_refusal m t) n (tracks_for m t) a.room.now (length_tracks m t) e
    (λ z. omega (arith, e, c.in_err-refusal.ensures, numbered c.in_err-refusal.field-0.0, z))

pub couple_columns-requires : goal.couple_columns-requires
couple_columns-requires c =
    let a = c.args in
    let e =
    all_fits (movements_of a.movements) (flights_of a.tracks) (length a.movements.flights.dates.now) (length a.room.now)
    (c.in_ok-refusal.ensures) refl in
    record { movements_value = e.0; tracks_value = e.1.0; dates_in_bounds = e.1.1 }

pub returns : goal.returns
returns c =
    let a = c.args in
    let m = movements_of a.movements in
    let t = flights_of a.tracks in
    answered (couple_refusal m t) (length a.movements.flights.dates.now) (tracks_for m t) a.room.now (length_tracks m t)
    (c.in_ok-refusal.ensures) refl c.couple_columns.ensures
