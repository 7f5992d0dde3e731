-- No other answer has what is promised: turn by turn, two answers that have it leave the same tracks free, so a
-- movement
-- takes the same track in both, or none in both. Assumes nothing.
use mathlib.Core.{Path.◌≡◌, Path.refl, Path.sym, Path.ap, Path.◌∙◌, List.List, Logic.◌⊎◌, Logic.inl, Logic.inr}
use mathlib.Core.{Logic.⊎_elim}
use Prim.Native.Nat.{ℕ, zero, suc, ◌≤◌, ◌<◌}
use native.Mathlib.Omega.{arith}
use lib.{ListN.get_or, Seq.ext_get_or}
use Rattle.refusal.proofs.Ranges.{within_at}
use Rattle.coupling_rules.specs.Flights.{Flights, Movements, many}
use Rattle.coupling_rules.specs.Rule.{moment_of, distance, tracks_for}
use Rattle.coupling_rules.specs.Refusals.{couple_refusal}
use Rattle.coupling_rules.specs.Promises.{second_of, Sooner, Rather, FreeFor, Coupled}
use Rattle.coupling_rules.specs.Promises.Rather.{nearer, earlier, lower}
use Rattle.coupling_rules.proofs.{Members.is_or_not, Members.zero_or, Refusing.Values, Refusing.not_refused_lem}
use Rattle.coupling_rules.proofs.{Refusing.movements_flights, Refusing.flights_values, Turns.by_turns}
use Rattle.coupling_rules.proofs.{Sooner.sooner_over, Fitting.apart_is, Promised.coupled}

-- Of two tracks only one goes before

-- so far, so early and at such a place as against others
abbrev Lower : (far far' early early' place place' : ℕ) → Type 0
Lower a b u v j k = (a < b) ⊎ ((a ≡ b) × ((u < v) ⊎ ((u ≡ v) × (j < k))))

one_way : (a b u v j k : ℕ) → Lower a b u v j k → Lower b a v u k j → ⊥
one_way a b u v j k (inl x) (inl y) = omega arith
one_way a b u v j k (inl x) (inr (e, y)) = omega arith
one_way a b u v j k (inr (e, x)) (inl y) = omega arith
one_way a b u v j k (inr (e, inl x)) (inr (f, inl y)) = omega arith
one_way a b u v j k (inr (e, inl x)) (inr (f, inr (g, y))) = omega arith
one_way a b u v j k (inr (e, inr (g, x))) (inr (f, inl y)) = omega arith
one_way a b u v j k (inr (e, inr (g, x))) (inr (f, inr (h, y))) = omega arith

module _ (m t : Flights) (i : ℕ) where
  abbrev near : ℕ → ℕ
  near x = distance (second_of m i) (second_of t x)

  says : (j k : ℕ) → Rather m t i j k → Lower (near j) (near k) (second_of t j) (second_of t k) j k
  says j k (nearer d e a b h) =
      let p = apart_is (second_of m i) (second_of t j) d a in
      let q = apart_is (second_of m i) (second_of t k) e b in
      inl (rw (sym p, sym q) h)
  says j k (earlier d a b h) =
      let p = apart_is (second_of m i) (second_of t j) d a in
      let q = apart_is (second_of m i) (second_of t k) d b in
      inr (sym p ∙ q, inl h)
  says j k (lower e h) = inr (ap (distance (second_of m i)) e, inr (e, h))

  not_both_rule : (j k : ℕ) → Rather m t i j k → Rather m t i k j → ⊥
  not_both_rule j k r s =
      one_way (near j) (near k) (second_of t j) (second_of t k) j k (says j k r) (says k j s)

-- an aeroplane's circuit, or any other movement
which : (class circuit : ℕ) → class ≤ 1
    → ((class ≡ 0) × (circuit ≡ 0 → ⊥)) ⊎ ((class ≡ 1) ⊎ (circuit ≡ 0))
which class circuit c =
    ⊎_elim (λ z. ⊎_elim (λ e. inr (inr e)) (λ n. inl (z, n)) (is_or_not circuit 0))
    (λ h. inr (inl (omega arith)))
    (zero_or class)

-- One movement, where those sooner took the same

module _ (m : Movements) (t : Flights) (v : Values m.flights) (i : ℕ) (h : i < many m.flights) where
  abbrev Before : List ℕ → List ℕ → Type 0
  Before a b = (k : ℕ) → k < many m.flights → Sooner m.flights k i → get_or a k 0 ≡ get_or b k 0

  still_free_rule : (a b : List ℕ) → Before a b → (j : ℕ) → FreeFor m a i j → FreeFor m b i j
  still_free_rule a b e j f k p s q = f k p s (e k p s ∙ q)

  -- one answer has a track, so the other has one
  some : (a b : List ℕ) → Before a b → Coupled m t a → Coupled m t b → (j : ℕ) → get_or a i 0 ≡ suc j
      → get_or b i 0 ≡ 0 → ⊥
  some a b e x y j p q =
      let w = x.agrees i j h p in
      let c = within_at 1 m.flights.classes i v.classes in
      ⊎_elim
      (λ z. let n = x.circuit i h z.0 z.1 in omega arith)
      (λ z. y.none i j h q z w.0 (still_free_rule a b e j w.1))
      (which (get_or m.flights.classes i 0) (get_or m.circuits i 0) c)

  -- and it is the same
  one : (a b : List ℕ) → Before a b → Before b a → Coupled m t a → Coupled m t b → (j k : ℕ)
      → get_or a i 0 ≡ suc j
      → get_or b i 0 ≡ suc k → (k ≡ j → ⊥) → ⊥
  one a b e f x y j k p q n =
      let u = x.agrees i j h p in
      let w = y.agrees i k h q in
      not_both_rule m.flights t i j k
      (x.nearest i j k h p n w.0 (still_free_rule b a f k w.1))
      (y.nearest i k j h q (λ r. n (sym r)) u.0 (still_free_rule a b e j u.1))

  same_by : (a b : List ℕ) → Before a b → Before b a → Coupled m t a → Coupled m t b → (x y : ℕ)
      → get_or a i 0 ≡ x
      → get_or b i 0 ≡ y → x ≡ y
  same_by a b e f c d zero zero p q = refl
  same_by a b e f c d (suc j) zero p q = absurd (some a b e c d j p q)
  same_by a b e f c d zero (suc k) p q = absurd (some b a f d c k q p)
  same_by a b e f c d (suc j) (suc k) p q =
      ⊎_elim (λ r. ap suc (sym r)) (λ n. absurd (one a b e f c d j k p q n)) (is_or_not k j)

two_same : (m : Movements) (t : Flights) → Values m.flights → (a b : List ℕ) → Coupled m t a
    → Coupled m t b
    → a ≡ b
two_same m t v a b c d =
    let n = many m.flights in
    let each : (i : ℕ) → i < n → get_or a i 0 ≡ get_or b i 0 = by_turns (moment_of m.flights) n
    (λ (i : ℕ). get_or a i 0 ≡ get_or b i 0)
    (λ i h before.
    let e : Before m t v i h a b = λ k p s. before k p (sooner_over m.flights v k i p h s) in
    same_by m t v i h a b e (λ k p s. sym (e k p s)) c d (get_or a i 0) (get_or b i 0) refl refl) in
    ext_get_or 0 a b (c.each ∙ sym d.each) (λ i h. each i (omega (arith, c.each)))

-- of movements and tracks that are not refused, only the rule's answer has what is promised
pub only_these : (m : Movements) (t : Flights) → couple_refusal m t ≡ 0 → (answer : List ℕ)
    → Coupled m t answer
    → answer ≡ tracks_for m t
only_these m t e answer c =
    two_same m t (flights_values m.flights (movements_flights m (not_refused_lem m t e).0)) answer (tracks_for m t) c
    (coupled m t e)
