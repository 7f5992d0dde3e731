-- Laws of `all_within`: for the loop that reads a list from its front, and for the values of a list that passed.
-- Assumes nothing.
use mathlib.Core.{Path.◌≡◌, Path.refl, Path.sym, Path.ap, Path.◌∙◌, Bool.Bool, Bool.true, Bool.false, Bool.false≢true, Bool.◌&&◌, Logic.⊎_elim}
use mathlib.Core.List.{List, [], ◌∷◌}
use Prim.Native.Nat.{ℕ, zero, suc, ◌+◌, ◌≤◌, ◌<◌}
use native.Mathlib.{Numerals.add-one, Omega.arith}
use lib.{Dec.leb, ListN.length, ListN.drop, ListN.get_or, ListN.drop_of_length-le, Seq.drop-cons}
use borrow.Author.Tests.{leb-true, le-leb}
use Rattle.refusal.specs.Range.{all_within}
use Rattle.std.specs.Prelude.{IsTrue, ◌↔◌, EachIndex, slice_index}
use Rattle.std.proofs.lemmas.Bool.{cases_Bool}
use Rattle.refusal.proofs.Laws.{and_left, and_right}

-- one value more is read
pub drop_more : (xs : List ℕ) (i : ℕ) → i < length xs → drop i xs ≡ get_or xs i 0 ∷ drop (i + 1) xs
drop_more xs i h = rw (add-one, drop-cons xs i 0 h)

pub within_more : (top : ℕ) (xs : List ℕ) (i : ℕ) {t : Bool} → i < length xs → leb (get_or xs i 0) top ≡ t
    → all_within top (drop i xs) ≡ (t && all_within top (drop (i + 1) xs))
unfolding all_within
within_more top xs i h e = ap (all_within top) (drop_more xs i h)
    ∙ ap (λ (b : Bool). b && all_within top (drop (i + 1) xs)) e

-- all values are read
pub within_end : (top : ℕ) (xs : List ℕ) (i : ℕ) → length xs ≤ i → all_within top (drop i xs) ≡ true
unfolding all_within
within_end top xs i h = ap (all_within top) (drop_of_length-le xs h)

-- each value of a list that passed is in range, also past its end, where 0 is read
pub within_at : (top : ℕ) (xs : List ℕ) (i : ℕ) → all_within top xs ≡ true → get_or xs i 0 ≤ top
unfolding all_within
within_at top [] i e = omega arith
within_at top (x ∷ xs) zero e = leb-true x top (and_left (leb x top) (all_within top xs) e)
within_at top (x ∷ xs) (suc i) e = within_at top xs i (and_right (leb x top) (all_within top xs) e)

-- and a list whose values are each in range passes
pub within_each : (top : ℕ) (xs : List ℕ) → ((i : ℕ) → i < length xs → get_or xs i 0 ≤ top)
    → all_within top xs ≡ true
unfolding all_within
within_each top [] h = refl
within_each top (x ∷ xs) h =
    rw (le-leb x top (h 0 (omega arith))) (within_each top xs (λ i b. h (suc i) (omega arith)))

-- so it passes exactly where each value is in range
pub within_exactly : (top : ℕ) (xs : List ℕ) (b : Bool) → IsTrue b ↔ EachIndex xs (λ i. slice_index xs i ≤ top)
    → b ≡ all_within top xs
within_exactly top xs true e = sym (within_each top xs (e.0 refl))
within_exactly top xs false e =
    ⊎_elim (λ h. absurd (false≢true (e.1 (λ i b. within_at top xs i h)))) sym (cases_Bool (all_within top xs))
