-- Of two tracks the closer: nearer, or as near and earlier, or as early too and of no higher place. It is an order, so
-- of
-- two one is it, and of three the closest is closer than the last. Assumes nothing.
use mathlib.Core.{Path.◌≡◌, Path.refl, Path.sym, Path.◌∙◌, Bool.Bool, Bool.true, Bool.false, Bool.cond}
use mathlib.Core.{Bool.true≢false, Logic.◌⊎◌, Logic.inl, Logic.inr, Logic.⊎_elim}
use Prim.Native.Nat.{ℕ, ◌≤◌, ◌<◌}
use native.Mathlib.Omega.{arith}
use lib.Dec.{eqb, ltb, leb}
use borrow.Author.Tests.{eqb-true, eq-eqb, ne_eqb, ltb-true, lt-ltb, le-leb, leb-true}
use Rattle.coupling_rules.specs.Rule.{earlier, closer}
use Rattle.coupling_rules.proofs.Members.{three_ways}

-- an earlier moment
is_earlier : (a b : ℕ) → a < b → earlier a b ≡ true
is_earlier a b h = omega (arith, lt-ltb)

earlier-true : (a b : ℕ) → earlier a b ≡ true → a < b
earlier-true a b e = omega (arith, ltb-true)

module _ (gap time : ℕ → ℕ) where
  pub closer_gap : (j k : ℕ) → gap j < gap k → closer gap time j k ≡ true
  unfolding closer
  closer_gap j k h =
      let n : gap j ≡ gap k → ⊥ = λ e. omega arith in
      rw (ne_eqb (gap j) (gap k) n) (lt-ltb (gap j) (gap k) h)

  pub closer_time : (j k : ℕ) → gap j ≡ gap k → time j < time k → closer gap time j k ≡ true
  unfolding closer
  closer_time j k e h =
      let n : time j ≡ time k → ⊥ = λ e. omega arith in
      rw (eq-eqb (gap j) (gap k) e, ne_eqb (time j) (time k) n) (is_earlier (time j) (time k) h)

  pub closer_place : (j k : ℕ) → gap j ≡ gap k → time j ≡ time k → j ≤ k → closer gap time j k ≡ true
  unfolding closer
  closer_place j k e f h = rw (eq-eqb (gap j) (gap k) e, eq-eqb (time j) (time k) f) (le-leb j k h)

  -- what `closer` says
  abbrev pub Closer : ℕ → ℕ → Type 0
  Closer j k = (gap j < gap k) ⊎ ((gap j ≡ gap k) × ((time j < time k) ⊎ ((time j ≡ time k) × (j ≤ k))))

  says_by : (j k : ℕ) (a b : Bool) → eqb (gap j) (gap k) ≡ a → eqb (time j) (time k) ≡ b
      → cond a (cond b (leb j k) (earlier (time j) (time k))) (ltb (gap j) (gap k)) ≡ true → Closer j k
  says_by j k true true p q e =
      inr (eqb-true (gap j) (gap k) p, inr (eqb-true (time j) (time k) q, leb-true j k e))
  says_by j k true false p q e = inr (eqb-true (gap j) (gap k) p, inl (earlier-true (time j) (time k) e))
  says_by j k false b p q e = inl (ltb-true (gap j) (gap k) e)

  pub closer_says : (j k : ℕ) → closer gap time j k ≡ true → Closer j k
  unfolding closer
  closer_says j k e = says_by j k (eqb (gap j) (gap k)) (eqb (time j) (time k)) refl refl e

  pub says_closer : (j k : ℕ) → Closer j k → closer gap time j k ≡ true
  says_closer j k (inl h) = closer_gap j k h
  says_closer j k (inr (e, inl h)) = closer_time j k e h
  says_closer j k (inr (e, inr (f, h))) = closer_place j k e f h

  pub both_closer : (j k : ℕ) → Closer j k → Closer k j → j ≡ k
  both_closer j k (inl a) (inl b) = omega arith
  both_closer j k (inl a) (inr b) = let e = b.0 in omega arith
  both_closer j k (inr a) (inl b) = let e = a.0 in omega arith
  both_closer j k (inr (e, inl a)) (inr (f, inl b)) = omega arith
  both_closer j k (inr (e, inl a)) (inr (f, inr b)) = let g = b.0 in omega arith
  both_closer j k (inr (e, inr a)) (inr (f, inl b)) = let g = a.0 in omega arith
  both_closer j k (inr (e, inr a)) (inr (f, inr b)) = let g = a.1 in let h = b.1 in omega arith

  pub closer_on : (j k l : ℕ) → Closer j k → Closer k l → Closer j l
  closer_on j k l (inl a) (inl b) = inl (omega arith)
  closer_on j k l (inl a) (inr b) = let e = b.0 in inl (omega arith)
  closer_on j k l (inr a) (inl b) = let e = a.0 in inl (omega arith)
  closer_on j k l (inr (e, inl a)) (inr (f, inl b)) = inr (e ∙ f, inl (omega arith))
  closer_on j k l (inr (e, inl a)) (inr (f, inr b)) = let g = b.0 in inr (e ∙ f, inl (omega arith))
  closer_on j k l (inr (e, inr a)) (inr (f, inl b)) = let g = a.0 in inr (e ∙ f, inl (omega arith))
  closer_on j k l (inr (e, inr a)) (inr (f, inr b)) =
      let g = a.1 in let h = b.1 in inr (e ∙ f, inr (a.0 ∙ b.0, omega arith))

  -- one of two is the closer
  later : (j k : ℕ) → gap j ≡ gap k → time j ≡ time k → Closer j k ⊎ Closer k j
  later j k e f =
      ⊎_elim (λ h. inl (inr (e, inr (f, omega arith))))
      (⊎_elim (λ q. inl (inr (e, inr (f, omega arith)))) (λ h. inr (inr (sym e, inr (sym f, omega arith)))))
      (three_ways j k)

  as_near : (j k : ℕ) → gap j ≡ gap k → Closer j k ⊎ Closer k j
  as_near j k e =
      ⊎_elim (λ h. inl (inr (e, inl h))) (⊎_elim (later j k e) (λ h. inr (inr (sym e, inl h))))
      (three_ways (time j) (time k))

  one_of : (j k : ℕ) → Closer j k ⊎ Closer k j
  one_of j k = ⊎_elim (λ h. inl (inl h)) (⊎_elim (as_near j k) (λ h. inr (inl h))) (three_ways (gap j) (gap k))

  pub not_closer : (j k : ℕ) → closer gap time j k ≡ false → Closer k j
  not_closer j k e = ⊎_elim (λ c. absurd (true≢false (sym (says_closer j k c) ∙ e))) (λ c. c) (one_of j k)
