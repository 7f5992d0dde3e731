-- The turns: n places in order of a key and then of place. What goes before one stands before it, and what holds of
-- each
-- if it holds of those before holds of all: `by_turns`. Assumes nothing.
use mathlib.Core.{Path.◌≡◌, Path.refl, Path.sym, Path.ap, Path.subst, Path.◌∙◌, List.List, List.[], List.◌∷◌}
use mathlib.Core.{List.◌++◌, Logic.inl, Logic.inr, Logic.⊎_elim}
use Prim.Native.Nat.{ℕ, ◌<◌}
use native.Mathlib.Omega.{arith}
use lib.Seq.{append_snoc}
use Rattle.sorting.specs.Sorted.{sorted}
use Rattle.coupling_rules.specs.Rule.{places}
use Rattle.coupling_rules.specs.InnerSides.{In, Chain, Over}
use Rattle.coupling_rules.proofs.{Members.in_append, Members.in_left, Members.in_right, Orders.sorted_in}
use Rattle.coupling_rules.proofs.{Orders.in_sorted, Orders.places_in, Orders.in_places, Orders.in_order}

-- each is met once
abbrev pub Once : List ℕ → Type 0
Once l = Chain (λ (x y : ℕ). x ≡ y → ⊥) l

pub once : (rank : ℕ → ℕ) (l : List ℕ) → Chain (Over rank) l → Once l
once rank [] c = tt
once rank (x ∷ l) c = (
  λ y m e. ⊎_elim (λ h. omega (arith, ap rank e)) (λ h. omega (arith, h.1)) (c.0 y m),
  once rank l c.1,
)

-- one of a list, with those before it and those after
pub record Cut (i : ℕ) (l : List ℕ) : Type 0 where
  pub before : List ℕ
  pub rest : List ℕ
  pub is : l ≡ before ++ i ∷ rest

pub cut : (i : ℕ) (l : List ℕ) → In i l → Cut i l
cut i [] m = absurd m
cut i (x ∷ l) (inl e) = record { before = []; rest = l; is = ap (λ (y : ℕ). y ∷ l) (sym e) }
cut i (x ∷ l) (inr m) =
    let c = cut i l m in
    record { before = x ∷ c.before; rest = c.rest; is = ap (λ (t : List ℕ). x ∷ t) c.is }

before_chain : (R : ℕ → ℕ → Type 0) (before : List ℕ) (i : ℕ) (rest : List ℕ)
    → Chain R (before ++ i ∷ rest)
    → (h : ℕ) → In h before → R h i
before_chain R [] i rest c h m = absurd m
before_chain R (x ∷ before) i rest c h (inl e) =
    subst (λ (n : ℕ). R n i) (sym e) (c.0 i (in_right i before (i ∷ rest) (inl refl)))
before_chain R (x ∷ before) i rest c h (inr m) = before_chain R before i rest c.1 h m

rest_chain : (R : ℕ → ℕ → Type 0) (before : List ℕ) (i : ℕ) (rest : List ℕ)
    → Chain R (before ++ i ∷ rest)
    → (h : ℕ) → In h rest → R i h
rest_chain R [] i rest c h m = c.0 h m
rest_chain R (x ∷ before) i rest c h m = rest_chain R before i rest c.1 h m

module _ (at : ℕ → ℕ) (n : ℕ) where
  abbrev turns : List ℕ
  turns = sorted at (places n)

  not_both_rule : (h i : ℕ) → Over at h i → Over at i h → ⊥
  not_both_rule h i (inl a) (inl b) = omega arith
  not_both_rule h i (inl a) (inr b) = let e = b.0 in omega arith
  not_both_rule h i (inr a) (inl b) = let e = a.0 in omega arith
  not_both_rule h i (inr a) (inr b) = let e = a.1 in let f = b.1 in omega arith

  pub inside : (k : ℕ) → In k (sorted at (places n)) → k < n
  inside k m = places_in n k (sorted_in at k (places n) m)

  -- one that goes before i stands before it
  pub stands : (i h : ℕ) (c : Cut i (sorted at (places n))) → h < n → Over at h i → In h c.before
  stands i h c p o =
      let l = subst (Chain (Over at)) c.is (in_order at n) in
      let m : In h (c.before ++ i ∷ c.rest) =
      subst (In h) c.is (in_sorted at h (places n) (in_places n h p)) in
      ⊎_elim (λ b. b)
      (λ r. absurd (not_both_rule h i o
      (⊎_elim
      (λ e. absurd
      (not_both_rule h i o (subst (λ (k : ℕ). Over at i k) (sym e) (subst (λ (k : ℕ). Over at k i) e o))))
      (λ q. rest_chain (Over at) c.before i c.rest l h q) r)))
      (in_append h c.before (i ∷ c.rest) m)

  pub goes : (i h : ℕ) (c : Cut i (sorted at (places n))) → In h c.before → (h < n) × Over at h i
  goes i h c m =
      let l = subst (Chain (Over at)) c.is (in_order at n) in (
        inside h (subst (In h) (sym c.is) (in_left h c.before (i ∷ c.rest) m)),
        before_chain (Over at) c.before i c.rest l h m,
      )

  -- one turn after the other
  module _ (P : ℕ → Type 0)
      (step : (i : ℕ) → i < n → ((h : ℕ) → h < n → Over at h i → P h) → P i) where
    one : (done : List ℕ) (i : ℕ) (rest : List ℕ) → turns ≡ done ++ i ∷ rest
        → ((h : ℕ) → In h done → P h) → P i
    one done i rest e f =
        step i (inside i (subst (In i) (sym e) (in_right i done (i ∷ rest) (inl refl))))
        (λ h p o. f h (stands i h (record { before = done; rest = rest; is = e }) p o))

    all : (done rest : List ℕ) → turns ≡ done ++ rest → ((h : ℕ) → In h done → P h) → (i : ℕ)
        → In i rest → P i
    all done [] e f i m = absurd m
    all done (x ∷ rest) e f i (inl q) = subst P (sym q) (one done x rest e f)
    all done (x ∷ rest) e f i (inr m) =
        all (done ++ (x ∷ [])) rest (e ∙ sym (append_snoc done x rest))
        (λ h k. ⊎_elim (f h) (λ s. ⊎_elim (λ q. subst P (sym q) (one done x rest e f)) (λ b. absurd b) s)
        (in_append h done (x ∷ []) k))
        i m

    pub by_turns : (i : ℕ) → i < n → P i
    by_turns i h = all [] turns refl (λ k m. absurd m) i (in_sorted at i (places n) (in_places n i h))
