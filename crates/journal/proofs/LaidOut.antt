-- A journal on its layout is calls spelled one after the other, and no number more. Assumes nothing.
use Rattle.std.specs.Prelude.{◌≡◌, ℕ, zero, suc, ◌+◌, ◌<◌, ◌≤◌, ◌⊎◌, length, get_or, take, drop}
use mathlib.Core.Path.{refl, sym, ap, ◌∙◌}
use mathlib.Core.Logic.{inl, inr, ⊎_elim}
use mathlib.Core.{Bool.Bool, Bool.true, Bool.false, Bool.cond, Bool.◌||◌, List.List, List.[], List.◌∷◌, List.◌++◌}
use native.Mathlib.Omega.{arith}
use lib.ListN.{length-drop, take-append-drop}
use lib.{Seq.length-take-le, Seq.drop-drop, Dec.eqb}
use borrow.Author.Tests.{eqb-true, ne_eqb}
use Rattle.book_rules.specs.Calls.Call.{enter, supply, take_back, withdraw}
use Rattle.journal.specs.Journal.{width_of, call_at, calls_of, laid_out}
use Rattle.journal.specs.Spelling.{spelled, journal_of, LaidExactly, Laid}
use Rattle.journal.proofs.Reading.{complete_width, calls_more, laid_more, laid_complete, nothing_left}
use Rattle.journal.proofs.Reading.{laid_cut}
use Rattle.journal.proofs.Audit.{laid_spelled, journal_calls}

-- The numbers of a call in front of the others

-- numbers that come after how many they are
counted_front : (n : ℕ) (j : List ℕ) → n ≤ length j → (length (take n j) ∷ take n j) ++ drop n j ≡ n ∷ j
counted_front n j h = rw (length-take-le n j h) (ap (λ (l : List ℕ). n ∷ l) (take-append-drop n j))

enter_front : (j : List ℕ) → get_or j 0 0 ≡ 1 → 7 + get_or j 6 0 ≤ length j
    → let counts = take (get_or j 6 0) (drop 7 j) in
    (1 ∷ get_or j 1 0 ∷ get_or j 2 0 ∷ get_or j 3 0 ∷ get_or j 4 0 ∷ get_or j 5 0 ∷ length counts ∷ counts)
    ++ drop (7 + get_or j 6 0) j ≡ j
enter_front [] k h = absurd (omega arith)
enter_front (a ∷ []) k h = absurd (omega arith)
enter_front (a ∷ b ∷ []) k h = absurd (omega arith)
enter_front (a ∷ b ∷ c ∷ []) k h = absurd (omega arith)
enter_front (a ∷ b ∷ c ∷ d ∷ []) k h = absurd (omega arith)
enter_front (a ∷ b ∷ c ∷ d ∷ e ∷ []) k h = absurd (omega arith)
enter_front (a ∷ b ∷ c ∷ d ∷ e ∷ f ∷ []) k h = absurd (omega arith)
enter_front (a ∷ b ∷ c ∷ d ∷ e ∷ f ∷ n ∷ j) k h =
    rw (← drop-drop n 7 (a ∷ b ∷ c ∷ d ∷ e ∷ f ∷ n ∷ j))
    (ap (λ (l : List ℕ). 1 ∷ b ∷ c ∷ d ∷ e ∷ f ∷ l) (counted_front n j (omega arith))
    ∙ ap (λ (x : ℕ). x ∷ b ∷ c ∷ d ∷ e ∷ f ∷ n ∷ j) (sym k))

supply_front : (j : List ℕ) → get_or j 0 0 ≡ 2 → 3 + get_or j 2 0 ≤ length j
    → let levels = take (get_or j 2 0) (drop 3 j) in
    (2 ∷ get_or j 1 0 ∷ length levels ∷ levels) ++ drop (3 + get_or j 2 0) j ≡ j
supply_front [] k h = absurd (omega arith)
supply_front (a ∷ []) k h = absurd (omega arith)
supply_front (a ∷ b ∷ []) k h = absurd (omega arith)
supply_front (a ∷ b ∷ n ∷ j) k h =
    rw (← drop-drop n 3 (a ∷ b ∷ n ∷ j))
    (ap (λ (l : List ℕ). 2 ∷ b ∷ l) (counted_front n j (omega arith)) ∙ ap (λ (x : ℕ). x ∷ b ∷ n ∷ j) (sym k))

two_front : (j : List ℕ) (n : ℕ) → get_or j 0 0 ≡ n → 2 ≤ length j
    → (n ∷ get_or j 1 0 ∷ []) ++ drop 2 j ≡ j
two_front [] n k h = absurd (omega arith)
two_front (a ∷ []) n k h = absurd (omega arith)
two_front (a ∷ b ∷ j) n k h = ap (λ (x : ℕ). x ∷ b ∷ j) (sym k)

call_front : (j : List ℕ) → 1 ≤ width_of j → width_of j ≤ length j
    → spelled (call_at j) ++ drop (width_of j) j ≡ j
unfolding width_of call_at spelled
call_front j some all =
    by (eqb (get_or j 0 0) 1) (eqb (get_or j 0 0) 2) (eqb (get_or j 0 0) 3) (eqb (get_or j 0 0) 4) refl refl refl refl
    some all
  where
    by : (a b c d : Bool) → eqb (get_or j 0 0) 1 ≡ a → eqb (get_or j 0 0) 2 ≡ b → eqb (get_or j 0 0) 3 ≡ c
        → eqb (get_or j 0 0) 4 ≡ d
        → 1 ≤ cond a (7 + get_or j 6 0) (cond b (3 + get_or j 2 0) (cond (c || d) 2 0))
        → cond a (7 + get_or j 6 0) (cond b (3 + get_or j 2 0) (cond (c || d) 2 0)) ≤ length j
        → spelled
        (cond a (enter (get_or j 1 0) (get_or j 2 0) (get_or j 3 0) (get_or j 4 0) (get_or j 5 0)
        (take (get_or j 6 0) (drop 7 j)))
        (cond b (supply (get_or j 1 0) (take (get_or j 2 0) (drop 3 j)))
        (cond c (take_back (get_or j 1 0)) (withdraw (get_or j 1 0)))))
        ++ drop (cond a (7 + get_or j 6 0) (cond b (3 + get_or j 2 0) (cond (c || d) 2 0))) j
        ≡ j
    by true b c d p q r s m l = enter_front j (eqb-true (get_or j 0 0) 1 p) l
    by false true c d p q r s m l = supply_front j (eqb-true (get_or j 0 0) 2 q) l
    by false false true d p q r s m l = two_front j 3 (eqb-true (get_or j 0 0) 3 r) l
    by false false false true p q r s m l = two_front j 4 (eqb-true (get_or j 0 0) 4 s) l
    by false false false false p q r s m l = absurd (omega arith)

-- All of them

-- the calls of j, where those of any shorter journal are spelled so
abbrev Spells : List ℕ → Type 0
Spells j = laid_out j ≡ true → journal_of (calls_of j) ≡ j

one_more : (most : ℕ) → ((rest : List ℕ) → length rest ≤ most → Spells rest) → (j : List ℕ)
    → length j ≤ suc most → Spells j
unfolding journal_of
one_more most again [] h e = rw (nothing_left [] (omega arith)).1 refl
one_more most again (x ∷ j) h e =
    let n : 0 < length (x ∷ j) = omega arith in
    let whole = laid_complete (x ∷ j) n e in
    let width = complete_width (x ∷ j) whole in
    let rest = drop (width_of (x ∷ j)) (x ∷ j) in
    let fewer : length rest ≤ most = omega (arith, length-drop (width_of (x ∷ j)) (x ∷ j), width.0) in
    let later = again rest fewer (sym (laid_more (x ∷ j) n whole) ∙ e) in
    rw (calls_more (x ∷ j) n whole, later) (call_front (x ∷ j) width.0 width.1)

no_number : (j : List ℕ) → length j ≤ 0 → Spells j
unfolding journal_of
no_number [] h e = rw (nothing_left [] (omega arith)).1 refl
no_number (x ∷ j) h e = absurd (omega arith)

spelled_from_lem : (most : ℕ) (j : List ℕ) → length j ≤ most → Spells j
spelled_from_lem zero = no_number
spelled_from_lem (suc most) = one_more most (spelled_from_lem most)

pub laid_exactly : (j : List ℕ) → LaidExactly j
laid_exactly j =
    record { on = λ e. sym (spelled_from_lem (length j) j (omega arith) e); only = λ cs e. rw e (journal_calls cs) }

-- The same, number by number

cut : (j : List ℕ) → 0 < length j → (width_of j < 1) ⊎ (length j < width_of j) → laid_out j ≡ false
cut j h k =
    laid_cut j (width_of j) refl h k

unknown : (n : ℕ) (rest : List ℕ) → (n ≡ 0) ⊎ (4 < n) → laid_out (n ∷ rest) ≡ false
unfolding width_of
unknown n rest h =
    let not-one : (k : ℕ) → 1 ≤ k → k ≤ 4 → eqb n k ≡ false =
    λ k l m. ne_eqb n k (λ z. ⊎_elim (λ y. omega arith) (λ y. omega arith) h) in
    let none : width_of (n ∷ rest) ≡ 0 = rw (
      not-one 1 (omega arith) (omega arith),
      not-one 2 (omega arith) (omega arith),
      not-one 3 (omega arith) (omega arith),
      not-one 4 (omega arith) (omega arith),
    ) refl in
    cut (n ∷ rest) (omega arith) (inl (omega arith))

pub laid : Laid
unfolding width_of spelled
laid =
    record {
      nothing = (nothing_left [] (omega arith)).0;
      enter= = λ x t k s m cs rest. laid_spelled (enter x t k s m cs) rest;
      supply= = λ x ls rest. laid_spelled (supply x ls) rest;
      take_back= = λ x rest. laid_spelled (take_back x) rest;
      withdraw= = λ x rest. laid_spelled (withdraw x) rest;
      unknown = unknown;
      enter_short = λ rest h. cut (1 ∷ rest) (omega arith) (inr (omega arith));
      enter_cut = λ x t k s m n rest h. cut (1 ∷ x ∷ t ∷ k ∷ s ∷ m ∷ n ∷ rest) (omega arith) (inr (omega arith));
      supply_short = λ rest h. cut (2 ∷ rest) (omega arith) (inr (omega arith));
      supply_cut = λ x n rest h. cut (2 ∷ x ∷ n ∷ rest) (omega arith) (inr (omega arith));
      take_back_short = cut (3 ∷ []) (omega arith) (inr (omega arith));
      withdraw_short = cut (4 ∷ []) (omega arith) (inr (omega arith));
    }
