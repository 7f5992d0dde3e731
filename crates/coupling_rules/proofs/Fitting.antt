-- A gap in the promise's words: a track fits a movement exactly if the movement may take it and is no aeroplane's
-- circuit,
-- and the closer of two that fit goes before the other. Assumes nothing.
use mathlib.Core.{Path.◌≡◌, Path.refl, Path.sym, Path.ap, Path.subst, Path.◌∙◌, Bool.Bool, Bool.true, Bool.false}
use mathlib.Core.{Bool.cond, Bool.not, Bool.and-false, Logic.◌⊎◌, Logic.inl, Logic.inr, Logic.⊎_elim}
use Prim.Native.Nat.{ℕ, ◌+◌, ◌≤◌, ◌<◌}
use native.Mathlib.Omega.{arith}
use lib.{Dec.eqb, ListN.get_or}
use borrow.Author.Tests.{eq-eqb, ne_eqb, leb-true, le-leb, not-true}
use Rattle.refusal.proofs.Laws.{and_left, and_right}
use Rattle.coupling_rules.specs.Limits.{aeroplane_window, helicopter_window}
use Rattle.coupling_rules.specs.Flights.{Flights, Movements, many}
use Rattle.coupling_rules.specs.Rule.{moment_of, distance, agree, window_of, left_out, takes_none, fits, gap}
use Rattle.coupling_rules.specs.Promises.{second_of, Within, InWindow, Apart, Rather, MayTake}
use Rattle.coupling_rules.specs.Promises.Rather.{nearer, earlier, lower}
use Rattle.coupling_rules.proofs.{Members.lt_or_not, Members.zero_or, Closer.Closer, Packing.agree_says}
use Rattle.coupling_rules.proofs.{Packing.says_agree, Sooner.moment_is}

-- Seconds between

apart_by : (a b : ℕ) → Apart a b (distance a b)
apart_by a b = ⊎_elim (λ h. inr (omega arith)) (λ h. inl (omega arith)) (lt_or_not a b)

pub apart_is : (a b d : ℕ) → Apart a b d → d ≡ distance a b
apart_is a b d (inl e) = omega arith
apart_is a b d (inr e) = omega arith

within_of : (a b w : ℕ) → distance a b ≤ w → Within w a b
within_of a b w h = (omega arith, omega arith)

of_within : (a b w : ℕ) → Within w a b → distance a b ≤ w
of_within a b w (h, k) = omega arith

-- What a movement may take

module _ (m : Movements) (t : Flights) (i j : ℕ) where
  abbrev class : ℕ
  class = get_or m.flights.classes i 0

  abbrev apart : ℕ
  apart = distance (moment_of m.flights i) (moment_of t j)

  gap_by : (b : Bool) → fits m t i j ≡ b → 0 < cond b (apart + 1) 0 → fits m t i j ≡ true
  gap_by true e h = e
  gap_by false e h = absurd (omega arith)

  gap_fits : 0 < gap m t i j → fits m t i j ≡ true
  unfolding gap
  gap_fits h = gap_by (fits m t i j) refl h

  gap_is : 0 < gap m t i j → gap m t i j ≡ apart + 1
  unfolding gap
  gap_is h = rw (gap_fits h)

  -- the seconds between, by dates and times
  far : apart ≡ distance (second_of m.flights i) (second_of t j)
  far = rw (moment_is m.flights i, moment_is t j)

  pub gap_far : 0 < gap m t i j → gap m t i j ≡ distance (second_of m.flights i) (second_of t j) + 1
  gap_far h = gap_is h ∙ ap (λ (n : ℕ). n + 1) far

  window_by : (b : Bool) → eqb class 0 ≡ b → window_of class ≡ cond b aeroplane_window helicopter_window
  window_by b e = ap (λ (x : Bool). cond x aeroplane_window helicopter_window) e

  aeroplanes : class ≡ 0 → window_of class ≡ 300
  aeroplanes e = omega (arith, window_by true (eq-eqb class 0 e))

  helicopters : class ≡ 1 → window_of class ≡ 600
  helicopters e = omega (arith, window_by false (ne_eqb class 0 (λ z. omega arith)))

  in_window : (w : ℕ) → window_of class ≡ w → apart ≤ window_of class
      → Within w (second_of m.flights i) (second_of t j)
  in_window w e h =
      within_of (second_of m.flights i) (second_of t j) w
      (subst (λ (n : ℕ). n ≤ w) far (subst (λ (n : ℕ). apart ≤ n) e h))

  of_window : (w : ℕ) → window_of class ≡ w → Within w (second_of m.flights i) (second_of t j)
      → apart ≤ window_of class
  of_window w e h =
      subst (λ (n : ℕ). apart ≤ n) (sym e)
      (subst (λ (n : ℕ). n ≤ w) (sym far) (of_within (second_of m.flights i) (second_of t j) w h))

  window_says : apart ≤ window_of class → InWindow m.flights i t j
  window_says h = record {
    aeroplane = λ e. in_window 300 (aeroplanes e) h;
    helicopter = λ e. in_window 600 (helicopters e) h;
  }

  says_window : class ≤ 1 → InWindow m.flights i t j → apart ≤ window_of class
  says_window c w =
      ⊎_elim (λ e. of_window 300 (aeroplanes e) (w.aeroplane e))
      (λ h. let e : class ≡ 1 = omega arith in of_window 600 (helicopters e) (w.helicopter e)) (zero_or class)

  -- a track that fits may be taken, and no track fits an aeroplane's circuit
  pub may_take : j < many t → 0 < gap m t i j
      → MayTake m t i j × (takes_none (get_or m.flights.classes i 0) (get_or m.circuits i 0) ≡ false)
  unfolding fits
  may_take there h =
      let n = not (takes_none class (get_or m.circuits i 0)) in
      let e = gap_fits h in
      let f = and_right n _ e in
      let a = agree_says m.flights i t j (and_left (agree m.flights i t j) _ f) in (
        record {
          there = there;
          alike = record {
            class = a.class;
            kind = a.kind;
            runway = a.runway;
            airport = a.airport;
            type = a.type;
          };
          window = window_says (leb-true apart (window_of class) (and_right (agree m.flights i t j) _ f));
        },
        not-true _ (and_left n _ e),
      )

  -- and one that may be taken fits
  pub takes_may : get_or m.flights.classes i 0 ≤ 1
      → takes_none (get_or m.flights.classes i 0) (get_or m.circuits i 0) ≡ false → MayTake m t i j
      → 0 < gap m t i j
  unfolding gap fits
  takes_may c n w =
      let a = w.alike in
      rw (
        n,
        says_agree m.flights i t j (record {
          class = a.class;
          kind = a.kind;
          runway = a.runway;
          airport = a.airport;
          type = a.type;
        }),
        le-leb apart (window_of class) (says_window c w.window),
      ) (omega arith)

-- aeroplane circuits, and every other movement
helicopters_may : (circuit : Bool) → left_out false circuit ≡ false
helicopters_may circuit = refl

pub may_have : (class circuit : ℕ) → (class ≡ 1) ⊎ (circuit ≡ 0) → takes_none class circuit ≡ false
unfolding takes_none
may_have class circuit (inl e) =
    ap (λ (b : Bool). left_out b (not (eqb circuit 0))) (ne_eqb class 0 (λ z. omega arith))
    ∙ helicopters_may (not (eqb circuit 0))
may_have class circuit (inr e) =
    ap (λ (b : Bool). left_out (eqb class 0) (not b)) (eq-eqb circuit 0 e) ∙ and-false (eqb class 0)

pub takes_none_rule : (class circuit : ℕ) → class ≡ 0 → (circuit ≡ 0 → ⊥) → takes_none class circuit ≡ true
unfolding takes_none
takes_none_rule class circuit e n =
    ap (λ (b : Bool). left_out b (not (eqb circuit 0))) (eq-eqb class 0 e)
    ∙ ap (λ (b : Bool). left_out true (not b)) (ne_eqb circuit 0 n)

-- no track fits a movement that takes none
pub no_gap : (m : Movements) (t : Flights) (i j : ℕ)
    → takes_none (get_or m.flights.classes i 0) (get_or m.circuits i 0) ≡ true → gap m t i j ≡ 0
unfolding gap fits
no_gap m t i j e = rw e

-- Which goes before

less : {a b : ℕ} (c d : ℕ) → a ≡ c + 1 → b ≡ d + 1 → a < b → c < d
less c d e f h = omega arith

alike : {a b : ℕ} (c d : ℕ) → a ≡ c + 1 → b ≡ d + 1 → a ≡ b → c ≡ d
alike c d e f h = omega arith

module _ (m : Movements) (t : Flights) (i j k : ℕ) where
  abbrev near : ℕ → ℕ
  near x = distance (second_of m.flights i) (second_of t x)

  rather : (k ≡ j → ⊥) → (near j < near k) ⊎ ((near j ≡ near k) × ((second_of t j < second_of t k)
      ⊎ ((second_of t j ≡ second_of t k) × (j ≤ k)))) → Rather m.flights t i j k
  rather n (inl h) =
      nearer (near j) (near k) (apart_by (second_of m.flights i) (second_of t j))
      (apart_by (second_of m.flights i) (second_of t k)) h
  rather n (inr (e, inl h)) =
      earlier (near j) (apart_by (second_of m.flights i) (second_of t j))
      (rw e (apart_by (second_of m.flights i) (second_of t k))) h
  rather n (inr (e, inr (f, h))) = lower f (omega arith)

  pub closer_rather : (k ≡ j → ⊥) → 0 < gap m t i j → 0 < gap m t i k → Closer (gap m t i) (moment_of t) j k
      → Rather m.flights t i j k
  closer_rather n p q (inl h) =
      rather n (inl (less (near j) (near k) (gap_far m t i j p) (gap_far m t i k q) h))
  closer_rather n p q (inr (e, inl h)) =
      rather n (inr (
        alike (near j) (near k) (gap_far m t i j p) (gap_far m t i k q) e,
        inl
            (subst (λ (a : ℕ). a < second_of t k) (moment_is t j)
            (subst (λ (a : ℕ). moment_of t j < a) (moment_is t k) h)),
      ))
  closer_rather n p q (inr (e, inr (f, h))) =
      rather n (inr (
        alike (near j) (near k) (gap_far m t i j p) (gap_far m t i k q) e,
        inr (sym (moment_is t j) ∙ f ∙ moment_is t k, h),
      ))
