-- A whole turn, from what the first half hands on. Assumes nothing.
use mathlib.Core.{Path.◌≡◌, Path.refl, Path.sym, Path.subst, Path.◌∙◌, Bool.Bool, Bool.true, Bool.false, Bool.cond}
use mathlib.Core.{List.List, List.[], List.◌∷◌, Logic.◌⊎◌, Logic.inl, Logic.inr, Logic.⊎_elim}
use Prim.Native.Nat.{ℕ, suc, ◌+◌, ◌≤◌, ◌<◌}
use native.Mathlib.{Omega.arith, Numerals.add-one}
use lib.{Dec.eqb, Dec.leb, ListN.length, ListN.drop, ListN.get_or, ListN.length-drop, Seq.drop-cons}
use borrow.Author.Tests.{eqb-true, eqb-false, leb-true, leb-false}
use Rattle.coupling_rules.specs.Rule.{after}
use Rattle.coupling_rules.specs.InnerSides.{head_gap, nearer, Pulled, Turned}
use Rattle.coupling_rules.proofs.Sides.{Gaps, neither, left_best, right_best, left_taken, right_taken}

-- what `nearer` says
nearer_by : (a b : ℕ) (p q r : Bool) → eqb a 0 ≡ p → eqb b 0 ≡ q → leb a b ≡ r → (n : ℕ)
    → cond p (cond q 0 2) (cond q 1 (cond r 1 2)) ≡ n
    → ((n ≡ 0) × ((a ≡ 0) × (b ≡ 0))) ⊎
    (((n ≡ 1) × ((0 < a) × ((b ≡ 0) ⊎ (a ≤ b)))) ⊎ ((n ≡ 2) × ((0 < b) × ((a ≡ 0) ⊎ (b < a)))))
nearer_by a b true true r e f g n h = inl (sym h, (eqb-true a 0 e, eqb-true b 0 f))
nearer_by a b true false r e f g n h =
    let m : b ≡ 0 → ⊥ = eqb-false b 0 f in inr (inr (sym h, (omega arith, inl (eqb-true a 0 e))))
nearer_by a b false true r e f g n h =
    let m : a ≡ 0 → ⊥ = eqb-false a 0 e in inr (inl (sym h, (omega arith, inl (eqb-true b 0 f))))
nearer_by a b false false true e f g n h =
    let m : a ≡ 0 → ⊥ = eqb-false a 0 e in inr (inl (sym h, (omega arith, inr (leb-true a b g))))
nearer_by a b false false false e f g n h =
    let m : b ≡ 0 → ⊥ = eqb-false b 0 f in inr (inr (sym h, (omega arith, inr (leb-false a b g))))

says : (a b n : ℕ) → n ≡ nearer a b
    → ((n ≡ 0) × ((a ≡ 0) × (b ≡ 0))) ⊎
    (((n ≡ 1) × ((0 < a) × ((b ≡ 0) ⊎ (a ≤ b)))) ⊎ ((n ≡ 2) × ((0 < b) × ((a ≡ 0) ⊎ (b < a)))))
unfolding nearer
says a b n e = nearer_by a b (eqb a 0) (eqb b 0) (leb a b) refl refl refl n (sym e)

says_none : (a b n : ℕ) → n ≡ nearer a b → n ≡ 0 → (a ≡ 0) × (b ≡ 0)
says_none a b n e h =
    ⊎_elim (λ x. x.1) (⊎_elim (λ x. absurd (omega (arith, x.0))) (λ x. absurd (omega (arith, x.0))))
    (says a b n e)

says_first : (a b n : ℕ) → n ≡ nearer a b → n ≡ 1 → (0 < a) × ((b ≡ 0) ⊎ (a ≤ b))
says_first a b n e h =
    ⊎_elim (λ x. absurd (omega (arith, x.0))) (⊎_elim (λ x. x.1) (λ x. absurd (omega (arith, x.0))))
    (says a b n e)

says_second : (a b n : ℕ) → n ≡ nearer a b → (n ≡ 0 → ⊥) → (n ≡ 1 → ⊥)
    → (0 < b) × ((a ≡ 0) ⊎ (b < a))
says_second a b n e h k =
    ⊎_elim (λ x. absurd (h x.0)) (⊎_elim (λ x. absurd (k x.0)) (λ x. x.1)) (says a b n e)

-- a list with a first that fits has a first
has_by : (gap : ℕ → ℕ) (l : List ℕ) → 0 < head_gap gap l → 0 < length l
has_by gap [] h = absurd (omega arith)
has_by gap (x ∷ l) h = omega arith

has_first : (gap : ℕ → ℕ) (l : List ℕ) (t : ℕ) → 0 < head_gap gap (drop t l) → t < length l
has_first gap l t h = let k = has_by gap (drop t l) h in omega (arith, length-drop t l)

module _ (rank gap time : ℕ → ℕ) (at base : ℕ) (g : Gaps rank gap time at base) (left right : List ℕ) where
  turned_none : (left' right' : List ℕ) → Pulled rank at left right left' right'
      → head_gap gap left' ≡ 0 → head_gap gap right' ≡ 0
      → Turned rank gap time at 0 left right left' right'
  unfolding after
  turned_none left' right' p e h =
      record {
        is_best =
            λ free s b. neither rank gap time at base g free left' right' (p.split free s) (p.below b)
            (p.from s.up) e h;
        split = λ free s b. p.split free s;
        below = λ free s b. p.below b;
      }

  left_cons : (x : ℕ) (l right' : List ℕ) → Pulled rank at left right (x ∷ l) right' → 0 < gap x
      → (head_gap gap right' ≡ 0) ⊎ (gap x ≤ head_gap gap right')
      → Turned rank gap time at (suc x) left right l right'
  unfolding after
  left_cons x l right' p h w =
      record {
        is_best =
            λ free s b. left_best rank gap time at base g free x l right' (p.split free s) (p.below b)
            (p.from s.up) h w;
        split = λ free s b. left_taken rank free x l right' (p.split free s);
        below = λ free s b j m. p.below b j (inr m);
      }

  right_cons : (left' : List ℕ) (y : ℕ) (l : List ℕ) → Pulled rank at left right left' (y ∷ l)
      → 0 < gap y → (head_gap gap left' ≡ 0) ⊎ (gap y < head_gap gap left')
      → Turned rank gap time at (suc y) left right left' l
  unfolding after
  right_cons left' y l p h w =
      record {
        is_best =
            λ free s b. right_best rank gap time at base g free left' y l (p.split free s) (p.below b)
            (p.from s.up) h w;
        split = λ free s b. right_taken rank free left' y l (p.split free s);
        below = λ free s b. p.below b;
      }

  turned_left : (stack : List ℕ) (t : ℕ) (right' : List ℕ) → t < length stack
      → Pulled rank at left right (drop t stack) right' → 0 < head_gap gap (drop t stack)
      → (head_gap gap right' ≡ 0) ⊎ (head_gap gap (drop t stack) ≤ head_gap gap right')
      → Turned rank gap time at (get_or stack t 0 + 1) left right (drop (t + 1) stack) right'
  turned_left stack t right' k p h w =
      let d = drop-cons stack t 0 k in
      let x = get_or stack t 0 in
      subst (λ (n : ℕ). Turned rank gap time at n left right (drop (t + 1) stack) right') (sym (add-one x))
      (subst (λ (n : ℕ). Turned rank gap time at (suc x) left right (drop n stack) right') (sym (add-one t))
      (left_cons x (drop (suc t) stack) right'
      (subst (λ (l : List ℕ). Pulled rank at left right l right') d p)
      (subst (λ (l : List ℕ). 0 < head_gap gap l) d h)
      (subst (λ (l : List ℕ). (head_gap gap right' ≡ 0) ⊎ (head_gap gap l ≤ head_gap gap right')) d w)))

  turned_right : (order : List ℕ) (r : ℕ) (left' : List ℕ) → r < length order
      → Pulled rank at left right left' (drop r order) → 0 < head_gap gap (drop r order)
      → (head_gap gap left' ≡ 0) ⊎ (head_gap gap (drop r order) < head_gap gap left')
      → Turned rank gap time at (get_or order r 0 + 1) left right left' (drop (r + 1) order)
  turned_right order r left' k p h w =
      let d = drop-cons order r 0 k in
      let x = get_or order r 0 in
      subst (λ (n : ℕ). Turned rank gap time at n left right left' (drop (r + 1) order)) (sym (add-one x))
      (subst (λ (n : ℕ). Turned rank gap time at (suc x) left right left' (drop n order)) (sym (add-one r))
      (right_cons left' x (drop (suc r) order)
      (subst (λ (l : List ℕ). Pulled rank at left right left' l) d p)
      (subst (λ (l : List ℕ). 0 < head_gap gap l) d h)
      (subst (λ (l : List ℕ). (head_gap gap left' ≡ 0) ⊎ (head_gap gap l < head_gap gap left')) d w)))

-- What a turn comes to by the nearer n of the two firsts, at t of the stack and at r of the order
pub record Chosen (Turns : (answer : ℕ) (left right : List ℕ) → Type 0) (stack order : List ℕ)
    (t r n : ℕ) : Type 0 where
  pub none : n ≡ 0 → Turns 0 (drop t stack) (drop r order)
  pub left_there : n ≡ 1 → t < length stack
  pub left : {x : ℕ} → n ≡ 1 → x ≡ get_or stack t 0 → Turns (x + 1) (drop (t + 1) stack) (drop r order)
  pub right_there : (n ≡ 0 → ⊥) → (n ≡ 1 → ⊥) → r < length order
  pub right : {x : ℕ} → (n ≡ 0 → ⊥) → (n ≡ 1 → ⊥) → x ≡ get_or order r 0
      → Turns (x + 1) (drop t stack) (drop (r + 1) order)

-- What the code finds: the tracks before the movement pulled over, the gaps a and b of the two firsts, and the nearer
module _ (rank gap time : ℕ → ℕ) (at base : ℕ) (g : Gaps rank gap time at base)
    (left right stack order : List ℕ)
    (t r : ℕ) (p : Pulled rank at left right (drop t stack) (drop r order)) (a b n : ℕ) (e : n ≡ nearer a b)
    (first : a ≡ head_gap gap (drop t stack)) (second : b ≡ head_gap gap (drop r order)) where
  takes_none : n ≡ 0 → Turned rank gap time at 0 left right (drop t stack) (drop r order)
  takes_none h =
      let z = says_none a b n e h in
      turned_none rank gap time at base g left right (drop t stack) (drop r order) p (sym first ∙ z.0)
      (sym second ∙ z.1)

  left_fits : n ≡ 1 → 0 < head_gap gap (drop t stack)
  left_fits h = subst (λ (m : ℕ). 0 < m) first (says_first a b n e h).0

  left_there : n ≡ 1 → t < length stack
  left_there h = has_first gap stack t (left_fits h)

  takes_left : {x : ℕ} → n ≡ 1 → x ≡ get_or stack t 0
      → Turned rank gap time at (x + 1) left right (drop (t + 1) stack) (drop r order)
  takes_left {x} h q =
      let w : (head_gap gap (drop r order) ≡ 0) ⊎ (head_gap gap (drop t stack) ≤ head_gap gap (drop r order)) =
      ⊎_elim (λ z. inl (sym second ∙ z)) (λ z. inr (omega arith)) (says_first a b n e h).1 in
      subst (λ (m : ℕ). Turned rank gap time at (m + 1) left right (drop (t + 1) stack) (drop r order)) (sym q)
      (turned_left rank gap time at base g left right stack t (drop r order) (left_there h) p (left_fits h) w)

  module _ (h : n ≡ 0 → ⊥) (k : n ≡ 1 → ⊥) where
    right_fits : 0 < head_gap gap (drop r order)
    right_fits = subst (λ (m : ℕ). 0 < m) second (says_second a b n e h k).0

    right_there : r < length order
    right_there = has_first gap order r right_fits

    takes_right : {x : ℕ} → x ≡ get_or order r 0
        → Turned rank gap time at (x + 1) left right (drop t stack) (drop (r + 1) order)
    takes_right {x} q =
        let w : (head_gap gap (drop t stack) ≡ 0) ⊎ (head_gap gap (drop r order) < head_gap gap (drop t stack)) =
        ⊎_elim (λ z. inl (sym first ∙ z)) (λ z. inr (omega arith)) (says_second a b n e h k).1 in
        subst (λ (m : ℕ). Turned rank gap time at (m + 1) left right (drop t stack) (drop (r + 1) order)) (sym q)
        (turned_right rank gap time at base g left right order r (drop t stack) right_there p right_fits w)

  pub chosen : Chosen (λ (x : ℕ) (l m : List ℕ). Turned rank gap time at x left right l m) stack order t r n
  chosen = record {
    none = takes_none;
    left_there = left_there;
    left = takes_left;
    right_there = right_there;
    right = λ h k q. takes_right h k q;
  }
