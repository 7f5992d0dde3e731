-- When a track is the best of those that are free: it fits, and no other that fits is closer. Assumes nothing.
use mathlib.Core.{Path.◌≡◌, Path.refl, Path.sym, Path.ap, Path.subst, Bool.Bool, Bool.true, Bool.false, Bool.cond}
use mathlib.Core.{List.List, List.[], List.◌∷◌, Logic.◌⊎◌, Logic.inl, Logic.inr, Logic.⊎_elim}
use Prim.Native.Nat.{ℕ, zero, suc, ◌≤◌, ◌<◌}
use native.Mathlib.Omega.{arith}
use lib.Dec.{ltb}
use borrow.Author.Tests.{ltb-true, ltb-false, le-ltb}
use Rattle.coupling_rules.specs.InnerSides.{In}
use Rattle.coupling_rules.specs.Rule.{closer, against, best}
use Rattle.coupling_rules.proofs.{Members.is_or_not, Closer.Closer, Closer.closer_place, Closer.closer_says}
use Rattle.coupling_rules.proofs.{Closer.says_closer, Closer.both_closer, Closer.closer_on, Closer.not_closer}

module _ (gap time : ℕ → ℕ) where
  other_by : (j x : ℕ) (b : Bool) → closer gap time x j ≡ b → closer gap time j x ≡ true → (j ≡ x → ⊥)
      → b ≡ false
  other_by j x true e f n =
      absurd (n (both_closer gap time j x (closer_says gap time j x f) (closer_says gap time x j e)))
  other_by j x false e f n = refl

  -- the best of a list is one of it that fits
  from_against : (x k r : ℕ) (b : Bool) → cond b (suc x) (suc r) ≡ suc k → (k ≡ x) ⊎ (k ≡ r)
  from_against x k r true f = inl (omega arith)
  from_against x k r false f = inr (omega arith)

  from_best : (x : ℕ) (l : List ℕ) (k r : ℕ) → 0 < gap x → best gap time l ≡ r
      → against gap time x r ≡ suc k
      → ((m : ℕ) → best gap time l ≡ suc m → In m l × (0 < gap m)) → In k (x ∷ l) × (0 < gap k)
  unfolding against
  from_best x l k zero h e f more = let q : k ≡ x = omega arith in (inl q, omega (arith, ap gap q))
  from_best x l k (suc r) h e f more =
      let m = more r e in
      ⊎_elim
      (λ q. (inl q, omega (arith, ap gap q)))
      (λ q. (inr (subst (λ (n : ℕ). In n l) (sym q) m.0), omega (arith, ap gap q, m.1)))
      (from_against x k r (closer gap time x r) f)

  from_cond : (x : ℕ) (l : List ℕ) (k : ℕ) (b : Bool) → ltb 0 (gap x) ≡ b
      → cond b (against gap time x (best gap time l)) (best gap time l) ≡ suc k
      → ((m : ℕ) → best gap time l ≡ suc m → In m l × (0 < gap m)) → In k (x ∷ l) × (0 < gap k)
  from_cond x l k true e f more = from_best x l k (best gap time l) (ltb-true 0 (gap x) e) refl f more
  from_cond x l k false e f more = let m = more k f in (inr m.0, m.1)

  pub best_in : (l : List ℕ) (k : ℕ) → best gap time l ≡ suc k → In k l × (0 < gap k)
  unfolding best
  best_in [] k e = absurd (omega arith)
  best_in (x ∷ l) k e = from_cond x l k (ltb 0 (gap x)) refl e (best_in l)

  -- Of the tracks in a list, j is closer than any other that fits
  abbrev pub Closest : ℕ → List ℕ → Type 0
  Closest j l = (k : ℕ) → In k l → 0 < gap k → closer gap time j k ≡ true

  first_by : (x : ℕ) (l : List ℕ) (r : ℕ) → best gap time l ≡ r → Closest x (x ∷ l)
      → against gap time x r ≡ suc x
  unfolding against
  first_by x l zero e c = refl
  first_by x l (suc k) e c = let m = best_in l k e in rw (c k (inr m.0) m.1)

  later_by : (x j : ℕ) (l : List ℕ) → best gap time l ≡ suc j → closer gap time j x ≡ true
      → (j ≡ x → ⊥)
      → against gap time x (best gap time l) ≡ suc j
  unfolding against
  later_by x j l e f n = rw e (rw (other_by j x (closer gap time x j) refl f n))

  is_by : (x : ℕ) (l : List ℕ) (j : ℕ) (b : Bool) → ltb 0 (gap x) ≡ b → In j (x ∷ l) → 0 < gap j
      → Closest j (x ∷ l) → (In j l → best gap time l ≡ suc j)
      → cond b (against gap time x (best gap time l)) (best gap time l) ≡ suc j
  is_by x l j false e (inl q) h c more = absurd (omega (arith, ap gap q, ltb-false 0 (gap x) e))
  is_by x l j false e (inr m) h c more = more m
  is_by x l j true e m h c more =
      ⊎_elim
      (λ q. subst (λ (n : ℕ). Closest n (x ∷ l) → against gap time x (best gap time l) ≡ suc n) (sym q)
      (first_by x l (best gap time l) refl) c)
      (λ n. later_by x j l (⊎_elim (λ q. absurd (n q)) more m) (c x (inl refl) (ltb-true 0 (gap x) e)) n)
      (is_or_not j x)

  pub best_is_rule : (l : List ℕ) (j : ℕ) → In j l → 0 < gap j → Closest j l → best gap time l ≡ suc j
  unfolding best
  best_is_rule [] j m h c = absurd m
  best_is_rule (x ∷ l) j m h c = is_by x l j (ltb 0 (gap x)) refl m h c (λ i. best_is_rule l j i h (λ k n. c k (inr n)))

  pub best_none : (l : List ℕ) → ((k : ℕ) → In k l → gap k ≡ 0) → best gap time l ≡ 0
  unfolding best
  best_none [] h = refl
  best_none (x ∷ l) h =
      let z : gap x ≤ 0 = omega (arith, h x (inl refl)) in
      rw (le-ltb 0 (gap x) z) (best_none l (λ k n. h k (inr n)))

  -- where there is none, none fits
  never_by : (x r : ℕ) (b : Bool) → cond b (suc x) (suc r) ≡ 0 → ⊥
  never_by x r true e = omega arith
  never_by x r false e = omega arith

  never_against : (x r : ℕ) → against gap time x r ≡ 0 → ⊥
  unfolding against
  never_against x zero e = omega arith
  never_against x (suc r) e = never_by x r (closer gap time x r) e

  none_by_rule : (x : ℕ) (l : List ℕ) (b : Bool) → ltb 0 (gap x) ≡ b
      → cond b (against gap time x (best gap time l)) (best gap time l) ≡ 0
      → (best gap time l ≡ 0 → (k : ℕ) → In k l → gap k ≡ 0) → (k : ℕ) → In k (x ∷ l)
      → gap k ≡ 0
  none_by_rule x l true f e more k m = absurd (never_against x (best gap time l) e)
  none_by_rule x l false f e more k (inl q) = omega (arith, ap gap q, ltb-false 0 (gap x) f)
  none_by_rule x l false f e more k (inr m) = more e k m

  pub none_fits : (l : List ℕ) → best gap time l ≡ 0 → (k : ℕ) → In k l → gap k ≡ 0
  unfolding best
  none_fits [] e k m = absurd m
  none_fits (x ∷ l) e k m = none_by_rule x l (ltb 0 (gap x)) refl e (none_fits l) k m

  -- the best is closer than any other that fits
  self : (x k : ℕ) → k ≡ x → closer gap time x k ≡ true
  self x k q = closer_place gap time x k (ap gap (sym q)) (ap time (sym q)) (omega arith)

  closest_first : (x r : ℕ) (l : List ℕ) → Closer gap time x r → Closest r l → Closest x (x ∷ l)
  closest_first x r l e c k (inl q) h = self x k q
  closest_first x r l e c k (inr m) h =
      says_closer gap time x k (closer_on gap time x r k e (closer_says gap time r k (c k m h)))

  closest_rest : (x r : ℕ) (l : List ℕ) → Closer gap time r x → Closest r l → Closest r (x ∷ l)
  closest_rest x r l e c k (inl q) h =
      subst (λ (n : ℕ). closer gap time r n ≡ true) (sym q) (says_closer gap time r x e)
  closest_rest x r l e c k (inr m) h = c k m h

  met_by : (x j r : ℕ) (l : List ℕ) (b : Bool) → closer gap time x r ≡ b → cond b (suc x) (suc r) ≡ suc j
      → Closest r l → Closest j (x ∷ l)
  met_by x j r l true e f c =
      let p : x ≡ j = omega arith in
      subst (λ (n : ℕ). Closest n (x ∷ l)) p (closest_first x r l (closer_says gap time x r e) c)
  met_by x j r l false e f c =
      let p : r ≡ j = omega arith in
      subst (λ (n : ℕ). Closest n (x ∷ l)) p (closest_rest x r l (not_closer gap time x r e) c)

  alone : (x : ℕ) (l : List ℕ) → best gap time l ≡ 0 → Closest x (x ∷ l)
  alone x l e k (inl q) h = self x k q
  alone x l e k (inr m) h = absurd (omega (arith, none_fits l e k m))

  met : (x j r : ℕ) (l : List ℕ) → best gap time l ≡ r → against gap time x r ≡ suc j
      → ((s : ℕ) → best gap time l ≡ suc s → Closest s l) → Closest j (x ∷ l)
  unfolding against
  met x j zero l e f more = let p : x ≡ j = omega arith in subst (λ (n : ℕ). Closest n (x ∷ l)) p (alone x l e)
  met x j (suc r) l e f more = met_by x j r l (closer gap time x r) refl f (more r e)

  closest_by : (x j : ℕ) (l : List ℕ) (b : Bool) → ltb 0 (gap x) ≡ b
      → cond b (against gap time x (best gap time l)) (best gap time l) ≡ suc j
      → ((s : ℕ) → best gap time l ≡ suc s → Closest s l) → Closest j (x ∷ l)
  closest_by x j l true e f more k m h = met x j (best gap time l) l refl f more k m h
  closest_by x j l false e f more k (inl q) h = absurd (omega (arith, ap gap q, ltb-false 0 (gap x) e))
  closest_by x j l false e f more k (inr m) h = more j f k m h

  pub best_closest : (l : List ℕ) (j : ℕ) → best gap time l ≡ suc j → Closest j l
  unfolding best
  best_closest [] j e k m h = absurd m
  best_closest (x ∷ l) j e k m h = closest_by x j l (ltb 0 (gap x)) refl e (best_closest l) k m h
