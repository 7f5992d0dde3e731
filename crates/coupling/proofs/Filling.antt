-- A loop's next turn, one value more in a packed column; and lists whose every value passes a test. Assumes nothing.
use mathlib.Core.{Path.◌≡◌, Path.refl, Path.sym, Path.ap, Path.◌∙◌, Bool.Bool, Bool.true, Bool.false, Bool.false≢true}
use mathlib.Core.{List.List, List.[], List.◌∷◌, Logic.⊎_elim}
use Rattle.std.specs.Prelude.{ℕ, suc, ◌+◌, ◌<◌, IsTrue, ◌↔◌, EachIndex, slice_index}
use Rattle.std.proofs.lemmas.Bool.{cases_Bool}
use Rattle.coupling_rules.proofs.Refusing.{exist_at, exist_each}
use native.Mathlib.Omega.{arith}
use lib.{ListN.length, ListN.get_or, ListN.set, Seq.get_or-set_same}
use lib.{Seq.get_or-set_other}
use borrow.Author.Tests.{eq-eqb, eqb-true}
use Rattle.std.specs.List.{list_all}
use Rattle.std.specs.Prelude.{◌==◌, zero}
use Rattle.refusal.proofs.Laws.{and_left, and_right}
use Rattle.date.specs.Calendar.{date_exists}
use Rattle.coupling_rules.specs.{Refusals.all_exist}
use Rattle.coupling_rules.specs.InnerPacked.{Filled}
use Rattle.coupling_rules.proofs.Members.{is_or_not}

pub filled_none : (f : ℕ → ℕ) (out : List ℕ) → Filled f 0 out
filled_none f out k h = absurd (omega arith)

pub filled_more : (f : ℕ → ℕ) (out : List ℕ) (i v : ℕ) → Filled f i out → i < length out → v ≡ f i
    → Filled f (i + 1) (set out i v)
filled_more f out i v h l e k q =
    ⊎_elim
    (λ p. ap (λ (n : ℕ). get_or (set out i v) n 0) p ∙ get_or-set_same out i v 0 l ∙ e ∙ ap f (sym p))
    (λ n. get_or-set_other out i k v 0 n ∙ h k (omega arith))
    (is_or_not k i)

-- all dates exist exactly where each does
pub exist_exactly : (ds : List ℕ) (b : Bool) → IsTrue b ↔ EachIndex ds (λ i. date_exists (slice_index ds i) ≡ true)
    → b ≡ all_exist ds
exist_exactly ds true e = sym (exist_each ds (e.0 refl))
exist_exactly ds false e =
    ⊎_elim (λ h. absurd (false≢true (e.1 (λ i b. exist_at ds i h b)))) sym (cases_Bool (all_exist ds))

-- all numbers of a list are n exactly where each is
all_is : (n : ℕ) (xs : List ℕ) → ((i : ℕ) → i < length xs → get_or xs i 0 ≡ n) → list_all (λ x. x == n) xs ≡ true
all_is n [] h = refl
all_is n (x ∷ xs) h = rw (eq-eqb x n (h 0 (omega arith))) (all_is n xs (λ i b. h (suc i) (omega arith)))

is_at : (n : ℕ) (xs : List ℕ) (i : ℕ) → list_all (λ x. x == n) xs ≡ true → i < length xs → get_or xs i 0 ≡ n
is_at n [] i e h = absurd (omega arith)
is_at n (x ∷ xs) zero e h = eqb-true x n (and_left (x == n) (list_all (λ y. y == n) xs) e)
is_at n (x ∷ xs) (suc i) e h = is_at n xs i (and_right (x == n) (list_all (λ y. y == n) xs) e) (omega arith)

pub is_exactly : (n : ℕ) (xs : List ℕ) (b : Bool) → IsTrue b ↔ EachIndex xs (λ i. slice_index xs i ≡ n)
    → b ≡ list_all (λ x. x == n) xs
is_exactly n xs true e = sym (all_is n xs (e.0 refl))
is_exactly n xs false e =
    ⊎_elim (λ h. absurd (false≢true (e.1 (λ i b. is_at n xs i h b)))) sym (cases_Bool (list_all (λ x. x == n) xs))
