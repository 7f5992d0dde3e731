-- What flights that are not refused have. Assumes nothing.
use mathlib.Core.{Path.◌≡◌, Path.refl, Bool.true, Bool.◌&&◌, List.List, List.[], List.◌∷◌}
use Prim.Native.Nat.{ℕ, zero, suc, ◌≤◌, ◌<◌}
use native.Mathlib.Omega.{arith}
use lib.{Dec.eqb, Dec.leb, ListN.length, ListN.get_or}
use borrow.Author.Tests.{eqb-true, leb-true}
use Rattle.refusal.specs.Range.{all_within}
use Rattle.refusal.proofs.Laws.{and_left, and_right, refuse_none}
use Rattle.date.specs.Calendar.{date_exists}
use Rattle.coupling_rules.specs.Flights.{Flights, Movements, many}
use Rattle.coupling_rules.specs.Refusals.{all_exist, shape_fits, values_fit, flights_fit, movements_fit}
use Rattle.coupling_rules.specs.Refusals.{couple_refusal}

pub record Shape (f : Flights) : Type 0 where
  pub few : many f ≤ 50000
  pub times= : length f.times ≡ many f
  pub classes= : length f.classes ≡ many f
  pub kinds= : length f.kinds ≡ many f
  pub runways= : length f.runways ≡ many f
  pub airports= : length f.airports ≡ many f
  pub types= : length f.types ≡ many f

pub record Values (f : Flights) : Type 0 where
  pub dates : all_exist f.dates ≡ true
  pub times : all_within 86399 f.times ≡ true
  pub classes : all_within 1 f.classes ≡ true
  pub kinds : all_within 1 f.kinds ≡ true

pub shape_of : (f : Flights) → shape_fits f ≡ true → Shape f
unfolding shape_fits
shape_of f e =
    let n = many f in
    let a = and_right (leb n 50000) _ e in
    let b = and_right (eqb (length f.times) n) _ a in
    let c = and_right (eqb (length f.classes) n) _ b in
    let d = and_right (eqb (length f.kinds) n) _ c in
    let g = and_right (eqb (length f.runways) n) _ d in
    record {
      few = leb-true n 50000 (and_left _ _ e);
      times= = eqb-true (length f.times) n (and_left _ _ a);
      classes= = eqb-true (length f.classes) n (and_left _ _ b);
      kinds= = eqb-true (length f.kinds) n (and_left _ _ c);
      runways= = eqb-true (length f.runways) n (and_left _ _ d);
      airports= = eqb-true (length f.airports) n (and_left _ _ g);
      types= = eqb-true (length f.types) n (and_right (eqb (length f.airports) n) _ g);
    }

pub values_of : (f : Flights) → values_fit f ≡ true → Values f
unfolding values_fit
values_of f e =
    let a = and_right (all_exist f.dates) _ e in
    let b = and_right (all_within 86399 f.times) _ a in
    record {
      dates = and_left (all_exist f.dates) _ e;
      times = and_left (all_within 86399 f.times) _ a;
      classes = and_left (all_within 1 f.classes) _ b;
      kinds = and_right (all_within 1 f.classes) _ b;
    }

pub flights_shape : (f : Flights) → flights_fit f ≡ true → Shape f
unfolding flights_fit
flights_shape f e = shape_of f (and_left (shape_fits f) (values_fit f) e)

pub flights_values : (f : Flights) → flights_fit f ≡ true → Values f
unfolding flights_fit
flights_values f e = values_of f (and_right (shape_fits f) (values_fit f) e)

pub movements_flights : (m : Movements) → movements_fit m ≡ true → flights_fit m.flights ≡ true
unfolding movements_fit
movements_flights m e = and_left (flights_fit m.flights) _ e

pub movements_circuits : (m : Movements) → movements_fit m ≡ true → length m.circuits ≡ many m.flights
unfolding movements_fit
movements_circuits m e =
    eqb-true (length m.circuits) (many m.flights) (and_right (flights_fit m.flights) _ e)

pub not_refused_lem : (m : Movements) (t : Flights) → couple_refusal m t ≡ 0
    → (movements_fit m ≡ true) × (flights_fit t ≡ true)
unfolding couple_refusal
not_refused_lem m t e =
    let r = (refuse_none 18 (movements_fit m && flights_fit t) 0 (omega arith) e).0 in
    (and_left (movements_fit m) (flights_fit t) r, and_right (movements_fit m) (flights_fit t) r)

-- each date of a list that passed exists
pub exist_at : (ds : List ℕ) (i : ℕ) → all_exist ds ≡ true → i < length ds
    → date_exists (get_or ds i 0) ≡ true
unfolding all_exist
exist_at [] i e h = absurd (omega arith)
exist_at (d ∷ ds) zero e h = and_left (date_exists d) (all_exist ds) e
exist_at (d ∷ ds) (suc i) e h = exist_at ds i (and_right (date_exists d) (all_exist ds) e) (omega arith)

-- and all exist where each does
pub exist_each : (ds : List ℕ) → ((i : ℕ) → i < length ds → date_exists (get_or ds i 0) ≡ true) → all_exist ds ≡ true
unfolding all_exist
exist_each [] h = refl
exist_each (d ∷ ds) h = rw (h 0 (omega arith)) (exist_each ds (λ i l. h (suc i) (omega arith)))
