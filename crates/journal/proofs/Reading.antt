-- A journal, call by call: what the whole says, said of what is still to be read. Assumes nothing.
use Rattle.std.specs.Prelude.{◌≡◌, ℕ, zero, suc, ◌+◌, ◌-◌, ◌<◌, ◌≤◌, Bool, true, false, cond, ◌||◌, eqb, leb}
use mathlib.Core.Path.{refl, sym, ap, ◌∙◌}
use mathlib.Core.Bool.{and-false}
use mathlib.Core.{List.List, List.[], List.◌∷◌, Logic.◌⊎◌, Logic.⊎_elim}
use native.Mathlib.{Nat.pos_of_ne-zero, Omega.arith}
use lib.{ListN.length, ListN.take, ListN.drop, ListN.get_or, ListN.length-drop, Seq.take_all}
use borrow.Author.Tests.{le-leb, lt-leb, leb-true, eqb-true, eqb-false}
use Rattle.refusal.proofs.Laws.{and_left, and_right}
use Rattle.book_rules.specs.Calls.{Call}
use Rattle.book_rules.specs.Calls.Call.{take_back, withdraw}
use Rattle.std.specs.Prelude.{Option, Some, None}
use Rattle.journal.specs.declared.numbers.Kind.{Kind}
use Rattle.journal.specs.declared.numbers.Kind.TheVariants.{Enter, Supply, TakeBack, Withdraw}
use Rattle.journal.specs.InnerKind.{kind_numbered}
use Rattle.journal.specs.Journal.{enter_at, supply_at}
use Rattle.journal.specs.Journal.{width_of, call_at, complete, calls_from, laid_out_from, calls_of, laid_out}

-- numbers that belong to the call before are passed over

skip_calls : (k : ℕ) (j : List ℕ) → calls_from k j ≡ calls_from 0 (drop k j)
unfolding calls_from
skip_calls zero j = refl
skip_calls (suc k) [] = refl
skip_calls (suc k) (x ∷ j) = skip_calls k j

skip_laid : (k : ℕ) (j : List ℕ) → laid_out_from k j ≡ laid_out_from 0 (drop k j)
unfolding laid_out_from
skip_laid zero j = refl
skip_laid (suc k) [] = refl
skip_laid (suc k) (x ∷ j) = skip_laid k j

rest-is : (w x : ℕ) (j : List ℕ) → 1 ≤ w → drop (w - 1) j ≡ drop w (x ∷ j)
rest-is zero x j h = absurd (omega arith)
rest-is (suc w) x j h = let e : suc w - 1 ≡ w = omega arith in ap (λ n. drop n j) e

pub complete_width : (j : List ℕ) → complete j ≡ true → (1 ≤ width_of j) × (width_of j ≤ length j)
unfolding complete
complete_width j e = (
  leb-true 1 (width_of j) (and_left (leb 1 (width_of j)) _ e),
  leb-true (width_of j) (length j) (and_right (leb 1 (width_of j)) _ e),
)

-- the first call, and the rest

pub calls_more : (j : List ℕ) → 0 < length j → complete j ≡ true
    → calls_of j ≡ call_at j ∷ calls_of (drop (width_of j) j)
unfolding calls_of calls_from
calls_more [] h e = absurd (omega arith)
calls_more (x ∷ j) h e =
    ap (λ (cs : List Call). call_at (x ∷ j) ∷ cs)
    (skip_calls (width_of (x ∷ j) - 1) j
    ∙ ap (calls_from 0) (rest-is (width_of (x ∷ j)) x j (complete_width (x ∷ j) e).0))

pub laid_more : (j : List ℕ) → 0 < length j → complete j ≡ true → laid_out j ≡ laid_out (drop (width_of j) j)
unfolding laid_out laid_out_from
laid_more [] h e = absurd (omega arith)
laid_more (x ∷ j) h e =
    rw e (skip_laid (width_of (x ∷ j) - 1) j
    ∙ ap (laid_out_from 0) (rest-is (width_of (x ∷ j)) x j (complete_width (x ∷ j) e).0))

pub laid_off : (j : List ℕ) → 0 < length j → complete j ≡ false → laid_out j ≡ false
unfolding laid_out laid_out_from
laid_off [] h e = absurd (omega arith)
laid_off (x ∷ j) h e = rw e refl

-- a journal on the layout starts with a complete call
pub laid_complete : (j : List ℕ) → 0 < length j → laid_out j ≡ true → complete j ≡ true
unfolding laid_out laid_out_from
laid_complete [] h e = absurd (omega arith)
laid_complete (x ∷ j) h e = and_left (complete (x ∷ j)) _ e

pub nothing_left : (j : List ℕ) → length j ≤ 0 → (laid_out j ≡ true) × (calls_of j ≡ [])
unfolding laid_out laid_out_from calls_of calls_from
nothing_left [] h = (refl, refl)
nothing_left (x ∷ j) h = absurd (omega arith)

-- The same, where the rest is lent as a part

-- the part from `at` on
abbrev pub tail : List ℕ → ℕ → List ℕ
tail j at = take (length j - at) (drop at j)

pub tail_is_lem : (j : List ℕ) (at : ℕ) → tail j at ≡ drop at j
tail_is_lem j at = take_all (length j - at) (drop at j) (omega (arith, length-drop at j))

pub length_tail : (j : List ℕ) (at : ℕ) → length (tail j at) ≡ length j - at
length_tail j at = ap length (tail_is_lem j at) ∙ length-drop at j

-- what a loop's test says of what is left
pub some_left : (j : List ℕ) {t : Bool} → t ≡ eqb (length j) 0 → t ≡ false → 0 < length j
some_left j e f = pos_of_ne-zero (eqb-false (length j) 0 (sym e ∙ f))

pub none_left : (j : List ℕ) {t : Bool} → t ≡ eqb (length j) 0 → t ≡ true → length j ≤ 0
none_left j e f = let z = eqb-true (length j) 0 (sym e ∙ f) in omega arith

-- a call that is not complete: of no known kind, or cut short
pub laid_cut : (j : List ℕ) (w : ℕ) → w ≡ width_of j → 0 < length j → (w < 1) ⊎ (length j < w) → laid_out j ≡ false
unfolding complete
laid_cut j w e h k =
    laid_off j h
    (⊎_elim (λ a. rw (lt-leb 1 (width_of j) (omega arith)) refl)
    (λ a. rw (lt-leb (width_of j) (length j) (omega arith)) (and-false (leb 1 (width_of j)))) k)

-- a complete call, and what follows it
pub record Step (j : List ℕ) (w : ℕ) : Type 0 where
  pub some : 1 ≤ w
  pub fits : w ≤ length j
  pub complete= : complete j ≡ true
  pub laid : laid_out j ≡ laid_out (tail j w)
  pub calls : calls_of j ≡ call_at j ∷ calls_of (tail j w)

step_of : (j : List ℕ) (w : ℕ) → w ≡ width_of j → 0 < length j → complete j ≡ true → Step j w
step_of j w e h t =
    let ww = complete_width j t in
    let d : drop (width_of j) j ≡ tail j w = ap (λ k. drop k j) (sym e) ∙ sym (tail_is_lem j w) in
    record {
      some = omega arith;
      fits = omega arith;
      complete= = t;
      laid = laid_more j h t ∙ ap laid_out d;
      calls = calls_more j h t ∙ ap (λ (k : List ℕ). call_at j ∷ calls_of k) d;
    }

-- by the tests of the check
pub step_tested : (j : List ℕ) (w : ℕ) → w ≡ width_of j → 0 < length j → 1 ≤ w → w ≤ length j → Step j w
unfolding complete
step_tested j w e h a b =
    step_of j w e h (rw (le-leb 1 (width_of j) (omega arith), le-leb (width_of j) (length j) (omega arith)) refl)

-- or by the layout
pub step_laid : (j : List ℕ) (w : ℕ) → w ≡ width_of j → 0 < length j → laid_out j ≡ true → Step j w
step_laid j w e h l = step_of j w e h (laid_complete j h l)

-- the width by the three tests on the first number
width_by : (j : List ℕ) (a b d : Bool) → eqb (get_or j 0 0) 1 ≡ a → eqb (get_or j 0 0) 2 ≡ b
    → (eqb (get_or j 0 0) 3 || eqb (get_or j 0 0) 4) ≡ d
    → width_of j ≡ cond a (7 + get_or j 6 0) (cond b (3 + get_or j 2 0) (cond d 2 0))
unfolding width_of
width_by j a b d p q r = rw (p, q, r) refl

-- every complete call has at least two numbers
pub complete_two : (j : List ℕ) → complete j ≡ true → 2 ≤ length j
complete_two j e =
    by (eqb (get_or j 0 0) 1) (eqb (get_or j 0 0) 2) (eqb (get_or j 0 0) 3 || eqb (get_or j 0 0) 4)
    (width_by j _ _ _ refl refl refl) (complete_width j e)
  where
    by : (a b d : Bool) → width_of j ≡ cond a (7 + get_or j 6 0) (cond b (3 + get_or j 2 0) (cond d 2 0))
        → (1 ≤ width_of j) × (width_of j ≤ length j) → 2 ≤ length j
    by true b d p w = omega (arith, p, w)
    by false true d p w = omega (arith, p, w)
    by false false true p w = omega (arith, p, w)
    by false false false p w = absurd (omega (arith, p, w))

-- What the kind of the call says of it

abbrev pub width_for : Option Kind → List ℕ → ℕ
width_for (Some Enter) j = 7 + get_or j 6 0
width_for (Some Supply) j = 3 + get_or j 2 0
width_for (Some TakeBack) j = 2
width_for (Some Withdraw) j = 2
width_for None j = 0

pub width_kind : (j : List ℕ) {k : Option Kind} → k ≡ kind_numbered (get_or j 0 0) → width_of j ≡ width_for k j
unfolding width_of
width_kind j {k} e =
    by (eqb (get_or j 0 0) 1) (eqb (get_or j 0 0) 2) (eqb (get_or j 0 0) 3) (eqb (get_or j 0 0) 4)
    ∙ ap (λ (o : Option Kind). width_for o j) (sym e)
  where
    by : (a b c d : Bool)
        → cond a (7 + get_or j 6 0) (cond b (3 + get_or j 2 0) (cond (c || d) 2 0))
        ≡ width_for (cond a (Some Enter) (cond b (Some Supply)
        (cond c (Some TakeBack) (cond d (Some Withdraw) None)))) j
    by true b c d = refl
    by false true c d = refl
    by false false true d = refl
    by false false false true = refl
    by false false false false = refl

abbrev pub call_for : Option Kind → List ℕ → Call
call_for (Some Enter) j = enter_at j
call_for (Some Supply) j = supply_at j
call_for (Some TakeBack) j = take_back (get_or j 1 0)
call_for (Some Withdraw) j = withdraw (get_or j 1 0)
call_for None j = withdraw (get_or j 1 0)

pub call_kind : (j : List ℕ) {k : Option Kind} → k ≡ kind_numbered (get_or j 0 0) → call_at j ≡ call_for k j
unfolding call_at
call_kind j {k} e =
    by (eqb (get_or j 0 0) 1) (eqb (get_or j 0 0) 2) (eqb (get_or j 0 0) 3) (eqb (get_or j 0 0) 4)
    ∙ ap (λ (o : Option Kind). call_for o j) (sym e)
  where
    by : (a b c d : Bool)
        → cond a (enter_at j) (cond b (supply_at j) (cond c (take_back (get_or j 1 0)) (withdraw (get_or j 1 0))))
        ≡ call_for (cond a (Some Enter) (cond b (Some Supply) (cond c (Some TakeBack) (cond d (Some Withdraw) None)))) j
    by true b c d = refl
    by false true c d = refl
    by false false true d = refl
    by false false false true = refl
    by false false false false = refl

-- Counting calls

pub record Counted (j rest : List ℕ) (count : ℕ) : Type 0 where
  pub within : count + length rest ≤ length j
  pub laid : laid_out rest ≡ true
  pub calls : length (calls_of j) ≡ count + length (calls_of rest)

pub counted_more : {j rest : List ℕ} {w count : ℕ} → Counted j rest count → Step rest w
    → Counted j (tail rest w) (count + 1)
counted_more {j} {rest} {w} {count} c s =
    let l = length_tail rest w in
    let n = ap length s.calls in
    record {
      within = omega (arith, s.some, s.fits, c.within);
      laid = sym s.laid ∙ c.laid;
      calls = omega (arith, c.calls);
    }
