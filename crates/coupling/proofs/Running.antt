-- Runs of equal rank, and the room for them on the stack. Assumes nothing.
use mathlib.Core.{Path.◌≡◌, Path.sym, Path.ap, Path.◌∙◌, Bool.Bool, Bool.cond, List.List}
use Rattle.std.specs.Prelude.{ℕ, suc, ◌+◌, ◌-◌, ◌<◌, ◌≤◌}
use native.Mathlib.{Omega.arith, Numerals.add-one}
use lib.{ListN.length, ListN.drop, ListN.get_or, ListN.drop_of_length-le, Seq.drop-cons}
use borrow.Author.Tests.{eq-eqb, ne_eqb}
use Rattle.coupling_rules.specs.InnerSides.{leading}

module _ (rank : ℕ → ℕ) (q : ℕ) where
  pub leading_more : (l : List ℕ) (e : ℕ) → e < length l → rank (get_or l e 0) ≡ q
      → leading rank q (drop e l) ≡ leading rank q (drop (e + 1) l) + 1
  unfolding leading
  leading_more l e h f =
      let n : suc (leading rank q (drop (suc e) l)) ≡ leading rank q (drop (suc e) l) + 1 = omega arith in
      ap (leading rank q) (drop-cons l e 0 h)
      ∙ ap (λ (b : Bool). cond b (suc (leading rank q (drop (suc e) l))) 0) (eq-eqb (rank (get_or l e 0)) q f)
      ∙ n
      ∙ ap (λ (m : ℕ). leading rank q (drop m l) + 1) (sym (add-one e))

  pub leading_stop : (l : List ℕ) (e : ℕ) → e < length l → (rank (get_or l e 0) ≡ q → ⊥)
      → leading rank q (drop e l) ≡ 0
  unfolding leading
  leading_stop l e h f =
      ap (leading rank q) (drop-cons l e 0 h)
      ∙ ap (λ (b : Bool). cond b (suc (leading rank q (drop (suc e) l))) 0) (ne_eqb (rank (get_or l e 0)) q f)

  pub leading_end : (l : List ℕ) (e : ℕ) → length l ≤ e → leading rank q (drop e l) ≡ 0
  unfolding leading
  leading_end l e h = ap (leading rank q) (drop_of_length-le l h)

-- Room in the two lists: `r` of the order is reached, from `at` on, and what was passed is pushed below `top`

pub top_after : (top at r e : ℕ) → at ≤ r → r ≤ e → top - (e - at) ≡ top - (r - at) - (e - r)
top_after top at r e h k = omega arith
