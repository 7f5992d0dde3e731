-- The run of equal rank at a list's front goes over to the left. Assumes nothing.
use mathlib.Core.{Path.◌≡◌, Path.refl, Path.sym, Path.ap, Path.subst, Path.◌∙◌, Bool.Bool, Bool.true, Bool.false}
use mathlib.Core.{Bool.cond, List.List, List.[], List.◌∷◌, List.◌++◌, Logic.inl, Logic.inr, Logic.⊎_elim}
use Prim.Native.Nat.{ℕ, zero, suc, ◌+◌, ◌-◌, ◌≤◌, ◌<◌}
use native.Mathlib.Omega.{arith}
use lib.{Dec.eqb, ListN.length, ListN.take, ListN.drop, ListN.get_or, ListN.length-drop, ListN.take-append-drop}
use lib.{Seq.drop-cons, Seq.drop-drop}
use borrow.Author.Tests.{eqb-true, eqb-false, eq-eqb}
use Rattle.coupling_rules.specs.InnerSides.{In, Chain, Over, Split, Below, From, leading}
use Rattle.coupling_rules.proofs.{Members.in_append, Sides.run_over}

pub chain_drop : (R : ℕ → ℕ → Type 0) (k : ℕ) (l : List ℕ) → Chain R l → Chain R (drop k l)
chain_drop R zero l c = c
chain_drop R (suc k) [] c = c
chain_drop R (suc k) (x ∷ l) c = chain_drop R k l c.1

module _ (rank : ℕ → ℕ) (q : ℕ) where
  le_by : (x : ℕ) (l : List ℕ) (b : Bool) → leading rank q l ≤ length l
      → cond b (suc (leading rank q l)) 0 ≤ suc (length l)
  le_by x l true h = omega arith
  le_by x l false h = omega arith

  leading_le : (l : List ℕ) → leading rank q l ≤ length l
  unfolding leading
  leading_le [] = omega arith
  leading_le (x ∷ l) = le_by x l (eqb (rank x) q) (leading_le l)

  in_by : (x : ℕ) (l : List ℕ) (j : ℕ) (b : Bool) → eqb (rank x) q ≡ b
      → In j (take (cond b (suc (leading rank q l)) 0) (x ∷ l))
      → (In j (take (leading rank q l) l) → rank j ≡ q) → rank j ≡ q
  in_by x l j true e (inl p) more = ap rank p ∙ eqb-true (rank x) q e
  in_by x l j true e (inr m) more = more m
  in_by x l j false e m more = absurd m

  leading_in : (l : List ℕ) (j : ℕ) → In j (take (leading rank q l) l) → rank j ≡ q
  unfolding leading
  leading_in [] j m = absurd m
  leading_in (x ∷ l) j m = in_by x l j (eqb (rank x) q) refl m (leading_in l j)

  rest_by_rule : (x : ℕ) (l : List ℕ) (j : ℕ) (b : Bool) → eqb (rank x) q ≡ b → Chain (Over rank) (x ∷ l)
      → q ≤ rank x → In j (drop (cond b (suc (leading rank q l)) 0) (x ∷ l))
      → (In j (drop (leading rank q l) l) → q < rank j) → q < rank j
  rest_by_rule x l j true e c h m more = more m
  rest_by_rule x l j false e c h (inl p) more =
      let n = eqb-false (rank x) q e in let k : rank x ≡ q → ⊥ = n in omega (arith, ap rank p)
  rest_by_rule x l j false e c h (inr m) more =
      let n : rank x ≡ q → ⊥ = eqb-false (rank x) q e in
      ⊎_elim (λ a. omega arith) (λ a. let f = a.0 in omega arith) (c.0 j m)

  leading_rest : (l : List ℕ) → Chain (Over rank) l → ((j : ℕ) → In j l → q ≤ rank j) → (j : ℕ)
      → In j (drop (leading rank q l) l) → q < rank j
  unfolding leading
  leading_rest [] c h j m = absurd m
  leading_rest (x ∷ l) c h j m =
      rest_by_rule x l j (eqb (rank x) q) refl c (h x (inl refl)) m (leading_rest l c.1 (λ k i. h k (inr i)) j)

-- the first is the least
least : (rank : ℕ → ℕ) (x : ℕ) (l : List ℕ) → Chain (Over rank) (x ∷ l) → (j : ℕ) → In j (x ∷ l)
    → rank x ≤ rank j
least rank x l c j (inl e) = omega (arith, ap rank e)
least rank x l c j (inr m) = ⊎_elim (λ a. omega arith) (λ a. let f = a.0 in omega arith) (c.0 j m)

module _ (rank : ℕ → ℕ) (order : List ℕ) (r : ℕ) (h : r < length order) where
  from_first : Chain (Over rank) (drop r order) → (j : ℕ) → In j (drop r order)
      → rank (get_or order r 0) ≤ rank j
  from_first c j m =
      let d = drop-cons order r 0 h in
      least rank (get_or order r 0) (drop (suc r) order) (subst (Chain (Over rank)) d c) j (subst (In j) d m)

  first_in_rule : In (get_or order r 0) (drop r order)
  first_in_rule = subst (In (get_or order r 0)) (sym (drop-cons order r 0 h)) (inl refl)

  pub run_length : leading rank (rank (get_or order r 0)) (drop r order) ≤ length order - r
  run_length =
      subst (λ (n : ℕ). leading rank (rank (get_or order r 0)) (drop r order) ≤ n) (length-drop r order)
      (leading_le rank (rank (get_or order r 0)) (drop r order))

  pub run_some : 0 < leading rank (rank (get_or order r 0)) (drop r order)
  unfolding leading
  run_some =
      subst (λ (n : ℕ). 0 < n)
      (sym
      (ap (leading rank (rank (get_or order r 0))) (drop-cons order r 0 h) ∙ ap
      (λ (b : Bool). cond b (suc (leading rank (rank (get_or order r 0)) (drop (suc r) order))) 0)
      (eq-eqb (rank (get_or order r 0)) (rank (get_or order r 0)) refl)))
      (omega arith)

  pub moved_split : (left left' : List ℕ) (n : ℕ) → n ≡ leading rank (rank (get_or order r 0)) (drop r order)
      → left' ≡ take n (drop r order) ++ left
      → (free : List ℕ) → Split rank free left (drop r order) → Split rank free left' (drop (r + n) order)
  moved_split left left' n e f free s =
      let l = drop r order in
      let q = rank (get_or order r 0) in
      let a : l ≡ take n l ++ drop n l = sym (take-append-drop n l) in
      let ins : (j : ℕ) → In j (take n l)
      → rank j ≡ q = λ j m. leading_in rank q l j (subst (λ (k : ℕ). In j (take k l)) e m) in
      let out : (j : ℕ) → In j (drop n l)
      → q < rank j =
      λ j m. leading_rest rank q l s.up (from_first s.up) j (subst (λ (k : ℕ). In j (drop k l)) e m) in
      let t : Split rank free (take n l ++ left) (drop n l) = run_over rank free left (take n l) (drop n l) q
      (subst (Split rank free left) a s) ins (λ j m. s.apart j (get_or order r 0) m first_in_rule) out in
      subst (λ (k : List ℕ). Split rank free k (drop (r + n) order)) (sym f)
      (subst (Split rank free (take n l ++ left)) (drop-drop n r order) t)

  pub moved_below_rule : (m : ℕ) (left left' : List ℕ) (n : ℕ)
      → n ≡ leading rank (rank (get_or order r 0)) (drop r order) → left' ≡ take n (drop r order) ++ left
      → rank (get_or order r 0) < m → Below rank m left → Below rank m left'
  moved_below_rule m left left' n e f k b j i =
      ⊎_elim
      (λ a. omega (
        arith,
        leading_in rank (rank (get_or order r 0)) (drop r order) j
            (subst (λ (k : ℕ). In j (take k (drop r order))) e a),
      ))
      (λ a. b j a)
      (in_append j (take n (drop r order)) left (subst (In j) f i))

  pub stop_from : (m : ℕ) → m ≤ rank (get_or order r 0) → Chain (Over rank) (drop r order)
      → From rank m (drop r order)
  stop_from m k c j i = omega (arith, from_first c j i)
