-- What is promised of the tracks that movements take: each took the best of what was free at its turn, and free at its
-- turn is what no sooner movement took. Assumes nothing.
use mathlib.Core.{Path.◌≡◌, Path.sym, Path.◌∙◌, List.List, Logic.◌⊎◌, Logic.inl, Logic.inr, Logic.⊎_elim}
use Prim.Native.Nat.{ℕ, suc, ◌≤◌, ◌<◌}
use native.Mathlib.Omega.{arith}
use lib.ListN.{length, get_or, replicate, length-replicate}
use Rattle.refusal.proofs.Ranges.{within_at}
use Rattle.coupling_rules.specs.Flights.{Flights, Movements, many}
use Rattle.coupling_rules.specs.Rule.{moment_of, gap, best, places, turns_of, tracks_for}
use Rattle.coupling_rules.specs.Refusals.{couple_refusal}
use Rattle.coupling_rules.specs.Promises.{Sooner, FreeFor, Coupled}
use Rattle.coupling_rules.specs.InnerSides.{In, Over}
use Rattle.coupling_rules.proofs.{Members.three_ways, Closer.closer_says, Best.best_in, Best.best_none}
use Rattle.coupling_rules.proofs.{Best.none_fits, Best.best_closest, Orders.places_in, Orders.in_places}
use Rattle.coupling_rules.proofs.{Refusing.Values, Refusing.not_refused_lem, Refusing.movements_flights}
use Rattle.coupling_rules.proofs.{Refusing.flights_values, Packing.length_tracks, Taking.turn_told}
use Rattle.coupling_rules.proofs.{Sooner.sooner_over, Sooner.over_sooner, Fitting.may_take, Fitting.takes_may}
use Rattle.coupling_rules.proofs.{Fitting.may_have, Fitting.takes_none_rule, Fitting.no_gap, Fitting.closer_rather}

-- One movement's turn, in the promise's words

pub record Own (m : Movements) (t : Flights) (i : ℕ) : Type 0 where
  pub left : List ℕ
  pub is_best : get_or (tracks_for m t) i 0 ≡ best (gap m t i) (moment_of t) left
  pub left_in : (j : ℕ) → In j left → (j < many t) × FreeFor m (tracks_for m t) i j
  pub in_left : (j : ℕ) → j < many t → FreeFor m (tracks_for m t) i j → In j left

module _ (m : Movements) (t : Flights) (v : Values m.flights) where
  own_turn : (i : ℕ) → i < many m.flights → Own m t i
  unfolding tracks_for turns_of
  own_turn i h =
      let n = many m.flights in
      let long : n ≤ length {A = ℕ} (replicate n 0) = omega (arith, length-replicate {A = ℕ} n 0) in
      let w = turn_told (gap m t) (moment_of t) (moment_of m.flights) n (places (many t)) (replicate n 0) long i h in
      record {
        left = w.left;
        is_best = w.is_best;
        left_in = λ j p.
            let q = w.left_in j p in
            (places_in (many t) j q.0, λ a b s e. q.1 a b (sooner_over m.flights v a i b h s) e);
        in_left = λ j p f.
            w.in_left j (in_places (many t) j p) (λ a b s e. f a b (over_sooner m.flights v a i b h s) e);
      }

  -- of two movements one is the sooner
  pub in_turn_rule : (h i : ℕ) → h < many m.flights → i < many m.flights
      → Sooner m.flights h i ⊎ ((h ≡ i) ⊎ Sooner m.flights i h)
  in_turn_rule h i p q =
      ⊎_elim (λ o. inl (over_sooner m.flights v h i p q o))
      (⊎_elim (λ e. inr (inl e)) (λ o. inr (inr (over_sooner m.flights v i h q p o))))
      (by_place (three_ways (moment_of m.flights h) (moment_of m.flights i)) (three_ways h i))
    where
      by_place : (moment_of m.flights h < moment_of m.flights i)
          ⊎ ((moment_of m.flights h ≡ moment_of m.flights i)
          ⊎ (moment_of m.flights i < moment_of m.flights h))
          → (h < i) ⊎ ((h ≡ i) ⊎ (i < h))
          → Over (moment_of m.flights) h i ⊎ ((h ≡ i) ⊎ Over (moment_of m.flights) i h)
      by_place (inl a) b = inl (inl a)
      by_place (inr (inr a)) b = inr (inr (inl a))
      by_place (inr (inl a)) (inl b) = inl (inr (a, b))
      by_place (inr (inl a)) (inr (inl b)) = inr (inl b)
      by_place (inr (inl a)) (inr (inr b)) = inr (inr (inr (sym a, b)))

  took : (i j : ℕ) → i < many m.flights → get_or (tracks_for m t) i 0 ≡ suc j
      → ((j < many t) × FreeFor m (tracks_for m t) i j) × (0 < gap m t i j)
  took i j h e =
      let o = own_turn i h in
      let b = best_in (gap m t i) (moment_of t) o.left j (sym o.is_best ∙ e) in
      (o.left_in j b.0, b.1)

  class_at : (i : ℕ) → get_or m.flights.classes i 0 ≤ 1
  class_at i = within_at 1 m.flights.classes i v.classes

  not_twice_rule : (h i j : ℕ) → h < many m.flights → i < many m.flights → Sooner m.flights h i
      → get_or (tracks_for m t) h 0 ≡ suc j → get_or (tracks_for m t) i 0 ≡ suc j → ⊥
  not_twice_rule h i j p q s e f = (took i j q f).0.1 h p s e

  told : Coupled m t (tracks_for m t)
  told = record {
    each = length_tracks m t;
    once = λ h i j p q e f.
        ⊎_elim (λ s. absurd (not_twice_rule h i j p q s e f))
        (⊎_elim (λ r. r) (λ s. absurd (not_twice_rule i h j q p s f e)))
        (in_turn_rule h i p q);
    agrees = λ i j h e.
        let w = took i j h e in
        ((may_take m t i j w.0.0 w.1).0, w.0.1);
    nearest = λ i j k h e n w f.
        let o = own_turn i h in
        let a = took i j h e in
        let p = takes_may m t i k (class_at i) (may_take m t i j a.0.0 a.1).1 w in
        closer_rather m t i j k n a.1 p
        (closer_says (gap m t i) (moment_of t) j k
        (best_closest (gap m t i) (moment_of t) o.left j (sym o.is_best ∙ e) k (o.in_left k w.there f) p));
    circuit = λ i h c n.
        let o = own_turn i h in
        o.is_best ∙ best_none (gap m t i) (moment_of t) o.left
        (λ k q. no_gap m t i k (takes_none_rule (get_or m.flights.classes i 0) (get_or m.circuits i 0) c n));
    none = λ i k h e w u f.
        let o = own_turn i h in
        let p = takes_may m t i k (class_at i)
        (may_have (get_or m.flights.classes i 0) (get_or m.circuits i 0) w) u in
        let z = none_fits (gap m t i) (moment_of t) o.left (sym o.is_best ∙ e) k (o.in_left k u.there f) in
        omega arith;
  }

-- movements and tracks that are not refused are coupled as the request says
pub coupled : (m : Movements) (t : Flights) → couple_refusal m t ≡ 0 → Coupled m t (tracks_for m t)
coupled m t e = told m t (flights_values m.flights (movements_flights m (not_refused_lem m t e).0))
