-- 18 is given exactly where one of the request's reasons holds: a test that fails has a place where it fails, and one
-- that
-- passes has none. Assumes nothing.
use mathlib.Core.{Path.◌≡◌, Path.refl, Path.sym, Path.◌∙◌, Bool.Bool, Bool.true, Bool.false, Bool.◌&&◌}
use mathlib.Core.{Bool.false≢true, List.List, List.[], List.◌∷◌, Logic.◌⊎◌, Logic.inl, Logic.inr, Logic.⊎_elim}
use Prim.Native.Nat.{ℕ, suc}
use native.Mathlib.Omega.{arith}
use lib.{Dec.eqb, Dec.leb, ListN.length, ListN.get_or}
use borrow.Author.Tests.{eqb-false, leb-false}
use Rattle.refusal.specs.Range.{all_within}
use Rattle.refusal.proofs.Ranges.{within_at}
use Rattle.date.specs.Calendar.{date_exists}
use Rattle.date.proofs.Exactly.{exists_exactly}
use Rattle.coupling_rules.specs.Flights.{Flights, Movements, many}
use Rattle.coupling_rules.specs.Refusals.{all_exist, shape_fits, values_fit, flights_fit, movements_fit}
use Rattle.coupling_rules.specs.Refusals.{couple_refusal}
use Rattle.coupling_rules.specs.Reasons.{Over, NoDate, Wrong, WrongMovements, RefusedExactly}
use Rattle.coupling_rules.proofs.Refusing.{flights_shape, flights_values, movements_flights}
use Rattle.coupling_rules.proofs.Refusing.{movements_circuits, not_refused_lem, exist_at}

-- a test of two that fails
one_fails : (a b : Bool) → (a && b) ≡ false → (a ≡ false) ⊎ (b ≡ false)
one_fails true b e = inr e
one_fails false b e = inl refl

-- a place where a value is over, and one where a date is none
over_at : (top : ℕ) (xs : List ℕ) → all_within top xs ≡ false → Over top xs
unfolding all_within
over_at top [] e = absurd (false≢true (sym e))
over_at top (x ∷ xs) e =
    ⊎_elim (λ a. record { place = 0; there = omega arith; over = leb-false x top a })
    (λ b. let o =
    over_at top xs b in record { place = suc o.place; there = omega (arith, o.there); over = o.over })
    (one_fails (leb x top) (all_within top xs) e)

date_at : (ds : List ℕ) → all_exist ds ≡ false → NoDate ds
unfolding all_exist
date_at [] e = absurd (false≢true (sym e))
date_at (d ∷ ds) e =
    ⊎_elim
    (λ a. record { place = 0; there = omega arith; none = λ o. false≢true (sym a ∙ (exists_exactly d).1 o) })
    (λ b. let o = date_at ds b in record { place = suc o.place; there = omega (arith, o.there); none = o.none })
    (one_fails (date_exists d) (all_exist ds) e)

-- What refuses flights

shape_wrong : (f : Flights) → shape_fits f ≡ false → Wrong f
unfolding shape_fits
shape_wrong f e =
    let n = many f in
    ⊎_elim (λ a. Wrong.many (leb-false n 50000 a))
    (λ b. ⊎_elim (λ a. Wrong.times (eqb-false (length f.times) n a))
    (λ c. ⊎_elim (λ a. Wrong.classes (eqb-false (length f.classes) n a))
    (λ d. ⊎_elim (λ a. Wrong.kinds (eqb-false (length f.kinds) n a))
    (λ g. ⊎_elim (λ a. Wrong.runways (eqb-false (length f.runways) n a))
    (λ h. ⊎_elim (λ a. Wrong.airports (eqb-false (length f.airports) n a))
    (λ a. Wrong.types (eqb-false (length f.types) n a))
    (one_fails (eqb (length f.airports) n) _ h))
    (one_fails (eqb (length f.runways) n) _ g))
    (one_fails (eqb (length f.kinds) n) _ d))
    (one_fails (eqb (length f.classes) n) _ c))
    (one_fails (eqb (length f.times) n) _ b))
    (one_fails (leb n 50000) _ e)

values_wrong : (f : Flights) → values_fit f ≡ false → Wrong f
unfolding values_fit
values_wrong f e =
    ⊎_elim (λ a. Wrong.date (date_at f.dates a))
    (λ b. ⊎_elim (λ a. Wrong.second (over_at 86399 f.times a))
    (λ c. ⊎_elim (λ a. Wrong.class (over_at 1 f.classes a)) (λ a. Wrong.kind (over_at 1 f.kinds a))
    (one_fails (all_within 1 f.classes) _ c))
    (one_fails (all_within 86399 f.times) _ b))
    (one_fails (all_exist f.dates) _ e)

flights_wrong : (f : Flights) → flights_fit f ≡ false → Wrong f
unfolding flights_fit
flights_wrong f e = ⊎_elim (shape_wrong f) (values_wrong f) (one_fails (shape_fits f) (values_fit f) e)

movements_wrong : (m : Movements) → movements_fit m ≡ false → WrongMovements m
unfolding movements_fit
movements_wrong m e =
    ⊎_elim (λ a. WrongMovements.flights (flights_wrong m.flights a))
    (λ a. WrongMovements.circuits (eqb-false (length m.circuits) (many m.flights) a))
    (one_fails (flights_fit m.flights) _ e)

-- and flights that pass have nothing of it
not_over_rule : (top : ℕ) (xs : List ℕ) → all_within top xs ≡ true → Over top xs → ⊥
not_over_rule top xs e o = omega (arith, within_at top xs o.place e, o.over)

not_wrong : (f : Flights) → flights_fit f ≡ true → Wrong f → ⊥
not_wrong f e (Wrong.many h) = omega (arith, (flights_shape f e).few)
not_wrong f e (Wrong.times u) = u (flights_shape f e).times=
not_wrong f e (Wrong.classes u) = u (flights_shape f e).classes=
not_wrong f e (Wrong.kinds u) = u (flights_shape f e).kinds=
not_wrong f e (Wrong.runways u) = u (flights_shape f e).runways=
not_wrong f e (Wrong.airports u) = u (flights_shape f e).airports=
not_wrong f e (Wrong.types u) = u (flights_shape f e).types=
not_wrong f e (Wrong.class o) = not_over_rule 1 f.classes (flights_values f e).classes o
not_wrong f e (Wrong.kind o) = not_over_rule 1 f.kinds (flights_values f e).kinds o
not_wrong f e (Wrong.second o) = not_over_rule 86399 f.times (flights_values f e).times o
not_wrong f e (Wrong.date d) =
    d.none ((exists_exactly (get_or f.dates d.place 0)).0
    (exist_at f.dates d.place (flights_values f e).dates d.there))

movements_right : (m : Movements) → movements_fit m ≡ true → WrongMovements m → ⊥
movements_right m e (WrongMovements.flights w) = not_wrong m.flights (movements_flights m e) w
movements_right m e (WrongMovements.circuits u) = u (movements_circuits m e)

-- The call

abbrev Reason : Movements → Flights → Type 0
Reason m t = WrongMovements m ⊎ Wrong t

module _ (m : Movements) (t : Flights) where
  no_reason : couple_refusal m t ≡ 0 → Reason m t → ⊥
  no_reason e w =
      let r = not_refused_lem m t e in
      ⊎_elim (movements_right m r.0) (not_wrong t r.1) w

  -- 18 and a reason, or 0
  either_by : (b : Bool) → (movements_fit m && flights_fit t) ≡ b
      → ((couple_refusal m t ≡ 18) × Reason m t) ⊎ (couple_refusal m t ≡ 0)
  unfolding couple_refusal
  either_by true e = inr (rw e)
  either_by false e =
      inl (
        rw e,
        ⊎_elim (λ a. inl (movements_wrong m a)) (λ a. inr (flights_wrong t a))
            (one_fails (movements_fit m) (flights_fit t) e),
      )

  either : ((couple_refusal m t ≡ 18) × Reason m t) ⊎ (couple_refusal m t ≡ 0)
  either = either_by (movements_fit m && flights_fit t) refl

  pub refused_exactly : RefusedExactly m t
  refused_exactly = record {
    refused = λ w. ⊎_elim (λ r. r.0) (λ z. absurd (no_reason z w)) either;
    only = λ n. ⊎_elim (λ r. r.1) (λ z. absurd (n z)) either;
    accepted = λ n. ⊎_elim (λ r. absurd (n r.1)) (λ z. z) either;
  }
