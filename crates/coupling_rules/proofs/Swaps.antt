-- Movements that have no track in common may go in either order, so a stable sort by such a key changes no answer:
-- `sorted_couple`. Assumes nothing.
use mathlib.Core.{Path.◌≡◌, Path.refl, Path.sym, Path.ap, Path.◌∙◌, Bool.Bool, Bool.true, Bool.false, Bool.cond}
use mathlib.Core.{List.List, List.[], List.◌∷◌}
use Prim.Native.Nat.{ℕ, zero, suc, ◌≤◌, ◌<◌}
use native.Mathlib.Omega.{arith}
use lib.{Dec.ltb, ListN.set, Seq.set_comm}
use borrow.Author.Tests.{le-ltb, ltb-true}
use Rattle.sorting.specs.Sorted.{insert, sorted}
use Rattle.coupling_rules.specs.Rule.{best, against, goes_with, without, after, couple}
use Rattle.coupling_rules.proofs.{Members.goes_true, Best.best_in}

-- taking two away, in either order
without_cons : (j x : ℕ) (l : List ℕ) (b : Bool) → goes_with j x ≡ b
    → without j (x ∷ l) ≡ cond b (without j l) (x ∷ without j l)
unfolding without
without_cons j x l b e = ap (λ (t : Bool). cond t (without j l) (x ∷ without j l)) e

apart_by : (j k x : ℕ) (l : List ℕ) (a b : Bool) → goes_with j x ≡ a → goes_with k x ≡ b
    → without j (without k l) ≡ without k (without j l)
    → without j (cond b (without k l) (x ∷ without k l)) ≡ without k (cond a (without j l) (x ∷ without j l))
apart_by j k x l true true e f more = more
apart_by j k x l true false e f more = without_cons j x (without k l) true e ∙ more
apart_by j k x l false true e f more = more ∙ sym (without_cons k x (without j l) true f)
apart_by j k x l false false e f more =
    without_cons j x (without k l) false e ∙ ap (λ (t : List ℕ). x ∷ t) more
    ∙ sym (without_cons k x (without j l) false f)

without_comm : (j k : ℕ) (l : List ℕ) → without j (without k l) ≡ without k (without j l)
unfolding without
without_comm j k [] = refl
without_comm j k (x ∷ l) = apart_by j k x l (goes_with j x) (goes_with k x) refl refl (without_comm j k l)

after_comm : (a b : ℕ) (l : List ℕ) → after a (after b l) ≡ after b (after a l)
unfolding after
after_comm zero zero l = refl
after_comm zero (suc b) l = refl
after_comm (suc a) zero l = refl
after_comm (suc a) (suc b) l = without_comm a b l

-- a track that doesn't fit isn't missed
module _ (gap time : ℕ → ℕ) where
  missed_by : (j x : ℕ) (l : List ℕ) (b : Bool) → goes_with j x ≡ b → gap j ≡ 0
      → best gap time (without j l) ≡ best gap time l
      → best gap time (cond b (without j l) (x ∷ without j l)) ≡ best gap time (x ∷ l)
  unfolding best
  missed_by j x l true e z more =
      let q : gap x ≤ 0 = omega (arith, ap gap (goes_true j x e)) in
      more ∙ sym
      (ap (λ (t : Bool). cond t (against gap time x (best gap time l)) (best gap time l)) (le-ltb 0 (gap x) q))
  missed_by j x l false e z more = ap (λ (n : ℕ). cond (ltb 0 (gap x)) (against gap time x n) n) more

  missed : (j : ℕ) (l : List ℕ) → gap j ≡ 0 → best gap time (without j l) ≡ best gap time l
  unfolding without
  missed j [] z = refl
  missed j (x ∷ l) z = missed_by j x l (goes_with j x) refl z (missed j l z)

  still : (b : ℕ) (l : List ℕ) → ((j : ℕ) → b ≡ suc j → gap j ≡ 0)
      → best gap time (after b l) ≡ best gap time l
  unfolding after
  still zero l h = refl
  still (suc j) l h = missed j l (h j refl)

module _ (gaps : ℕ → ℕ → ℕ) (time key : ℕ → ℕ)
    (none : (i y : ℕ) → (key i ≡ key y → ⊥) → (j : ℕ) → 0 < gaps i j → gaps y j ≡ 0) where
  not_other : (i y : ℕ) (free : List ℕ) → (key i ≡ key y → ⊥)
      → best (gaps y) time (after (best (gaps i) time free) free) ≡ best (gaps y) time free
  not_other i y free n =
      still (gaps y) time (best (gaps i) time free) free (λ j e. none i y n j (best_in (gaps i) time free j e).1)

  swap : (i y : ℕ) (turns free answers : List ℕ) → (key i ≡ key y → ⊥)
      → couple gaps time (y ∷ i ∷ turns) free answers ≡ couple gaps time (i ∷ y ∷ turns) free answers
  unfolding couple
  swap i y turns free answers n =
      let a = best (gaps i) time free in
      let b = best (gaps y) time free in
      let p : best (gaps i) time (after b free) ≡ a = not_other y i free (λ e. n (sym e)) in
      let q : best (gaps y) time (after a free) ≡ b = not_other i y free n in
      let d : y ≡ i → ⊥ = λ e. n (ap key (sym e)) in
      ap (λ (m : ℕ). couple gaps time turns (after m (after b free)) (set (set answers y b) i m)) p
      ∙ ap (λ (f : List ℕ). couple gaps time turns f (set (set answers y b) i a)) (after_comm a b free)
      ∙ ap (couple gaps time turns (after b (after a free))) (set_comm answers y i b a d)
      ∙ sym (ap (λ (m : ℕ). couple gaps time turns (after m (after a free)) (set (set answers i a) y m)) q)

  insert_by : (i y : ℕ) (turns free answers : List ℕ) (b : Bool) → ltb (key y) (key i) ≡ b
      → ((f a : List ℕ) → couple gaps time (insert key i turns) f a ≡ couple gaps time (i ∷ turns) f a)
      → couple gaps time (cond b (y ∷ insert key i turns) (i ∷ y ∷ turns)) free answers ≡ couple gaps time
      (i ∷ y ∷ turns) free answers
  unfolding couple
  insert_by i y turns free answers true e more =
      more _ _ ∙ swap i y turns free answers (λ q. omega (arith, ltb-true (key y) (key i) e))
  insert_by i y turns free answers false e more = refl

  insert_couple : (i : ℕ) (turns free answers : List ℕ)
      → couple gaps time (insert key i turns) free answers ≡ couple gaps time (i ∷ turns) free answers
  unfolding insert
  insert_couple i [] free answers = refl
  insert_couple i (y ∷ turns) free answers =
      insert_by i y turns free answers (ltb (key y) (key i)) refl (insert_couple i turns)

  pub sorted_couple : (turns free answers : List ℕ)
      → couple gaps time (sorted key turns) free answers ≡ couple gaps time turns free answers
  unfolding sorted couple
  sorted_couple [] free answers = refl
  sorted_couple (i ∷ turns) free answers = insert_couple i (sorted key turns) free answers ∙ sorted_couple turns _ _
