-- The refusals of a load and of a verdict on any book, by its rows. Assumes nothing.
use mathlib.Core.Path.{◌≡◌, refl, sym, subst}
use mathlib.Core.Bool.{Bool, true, false, cond, not, ◌&&◌, ◌||◌, false≢true}
use mathlib.Core.List.{List, [], ◌∷◌, ◌++◌}
use mathlib.Core.Logic.Iff
use mathlib.Core.Logic.{◌↔◌, ⊎_elim}
use Prim.Native.Nat.{ℕ, zero, suc, ◌+◌, ◌*◌, ◌≤◌, ◌<◌}
use native.Mathlib.{Nat.eq-or-lt_of_le, Omega.arith}
use lib.{ListN.length, ListN.get_or, ListN.length-append, Dec.eqb, Dec.ltb}
use borrow.Author.Tests.{eqb-true, eqb-false}
use Rattle.movement.proofs.Exactly.{less, both, opposite}
use Rattle.book_rules.specs.Columns.{Book, sound}
use Rattle.book_rules.proofs.SoundBook.{sound_exactly}
use Rattle.load_rules.specs.Shares.{Share, energy_in, any_computed, row_share, shares_to, book_shares}
use Rattle.load_rules.specs.Shares.Share.{has, lacks}
use Rattle.load_rules.specs.{Load.none_computed, Load.book_load, Verdict.judged_of, Verdict.book_verdict}
use Rattle.load_rules.specs.Refusals.{NoneMarked, LoadNumbers, VerdictNumbers, BookRefusals}
use Rattle.load_rules.proofs.Determined.{refused_told}
use Rattle.load_rules.proofs.RefusalLaws.{days_exactly, limit_exactly, load_numbers_rule, verdict_numbers_rule}

-- what holds of each number below k, and of k
below_suc : {P : ℕ → Type 0} (k : ℕ)
    → ((i : ℕ) → i < k → P i) × P k ↔ ((i : ℕ) → i < suc k → P i)
below_suc {P} k = (
  λ b i h. ⊎_elim (λ (e : i ≡ k). subst P (sym e) b.1) (b.0 i) (eq-or-lt_of_le {n = i} {m = k} (omega arith)),
  λ f. (λ i h. f i (omega arith), f k (omega arith)),
)

neither : (a b : Bool) → (a || b) ≡ false ↔ (a ≡ false) × (b ≡ false)
neither true b = (λ e. absurd (false≢true (sym e)), λ h. absurd (false≢true (sym h.0)))
neither false b = (λ e. (refl, e), λ h. h.1)

any_append : (a b : List Share) → any_computed (a ++ b) ≡ (any_computed a || any_computed b)
unfolding any_computed
any_append [] b = refl
any_append (has g e ∷ a) b = refl
any_append (lacks g ∷ a) b = any_append a b

-- A reason for 10 that is the same where the book fits

within : {F A B : Type 0} → (F → A ↔ B) → F × A ↔ F × B
within e = (λ h. (h.0, (e h.0).0 h.1), λ h. (h.0, (e h.0).1 h.1))

load_under : {F D N M : Type 0} {r : ℕ} → (F → N ↔ M) → LoadNumbers F D N r → LoadNumbers F D M r
load_under e n =
    record {
      nine = n.nine;
      eleven = n.eleven;
      ten = Iff.trans n.ten (within (λ f. Iff.and Iff.rfl (e f)));
      answered = Iff.trans n.answered (within (λ f. Iff.and Iff.rfl (Iff.not (e f))));
    }

verdict_under : {F D L N M : Type 0} {r : ℕ} → (F → N ↔ M) → VerdictNumbers F D L N r
    → VerdictNumbers F D L M r
verdict_under e n =
    record {
      nine = n.nine;
      eleven = n.eleven;
      fifteen = n.fifteen;
      ten = Iff.trans n.ten (within (λ f. Iff.and Iff.rfl (Iff.and Iff.rfl (e f))));
      answered =
          Iff.trans n.answered (within (λ f. Iff.and Iff.rfl (Iff.and Iff.rfl (Iff.not (e f)))));
    }

-- One row

row_any : (g m c l : ℕ) → any_computed (row_share g m c l) ≡ false ↔ (¬ (c ≡ 0) → m ≡ 0)
unfolding row_share any_computed
row_any g m c l = go (eqb c 0) refl (eqb m 0) refl
  where
    go : (s : Bool) → eqb c 0 ≡ s → (t : Bool) → eqb m 0 ≡ t
        → any_computed (cond s [] (cond t (lacks g) (has g (energy_in g l)) ∷ [])) ≡ false ↔ (¬ (c ≡ 0)
        → m ≡ 0)
    go true e t f = (λ h there. absurd (there (eqb-true c 0 e)), λ h. refl)
    go false e true f = (λ h there. eqb-true m 0 f, λ h. refl)
    go false e false f = (λ h. absurd (false≢true (sym h)), λ h. absurd (eqb-false m 0 f (h (eqb-false c 0 e))))

row_length : (g m c l : ℕ) → length (row_share g m c l) ≡ 0 ↔ c ≡ 0
unfolding row_share
row_length g m c l = go (eqb c 0) refl
  where
    go : (s : Bool) → eqb c 0 ≡ s
        → length (cond s [] (cond (eqb m 0) (lacks g) (has g (energy_in g l)) ∷ [])) ≡ 0 ↔ c ≡ 0
    go true e = (λ h. eqb-true c 0 e, λ h. refl)
    go false e = (λ h. absurd (omega arith), λ h. absurd (eqb-false c 0 e h))

-- The rows below k

module _ (p pt : ℕ) (b : Book) where
  -- what row i has at the point
  abbrev count_at : ℕ → ℕ
  count_at i = get_or b.counts (i * p + pt) 0

  rows_any : (k : ℕ) → any_computed (shares_to p pt b k) ≡ false
      ↔ ((i : ℕ) → i < k → ¬ (count_at i ≡ 0) → get_or b.marks i 0 ≡ 0)
  unfolding shares_to any_computed
  rows_any zero = (λ e i h. absurd (omega arith), λ f. refl)
  rows_any (suc k) =
      rw any_append
      (Iff.trans (neither _ _) (Iff.trans
      (Iff.and (rows_any k) (row_any (get_or b.groups k 0) (get_or b.marks k 0) (count_at k)
      (get_or b.levels (k * p + pt) 0)))
      (below_suc {P = λ i. ¬ (count_at i ≡ 0) → get_or b.marks i 0 ≡ 0} k)))

  rows_length : (k : ℕ) → length (shares_to p pt b k) ≡ 0 ↔ ((i : ℕ) → i < k → count_at i ≡ 0)
  unfolding shares_to
  rows_length zero = (λ e i h. absurd (omega arith), λ f. refl)
  rows_length (suc k) =
      rw length-append
      (Iff.trans no_sum (Iff.trans
      (Iff.and (rows_length k) (row_length (get_or b.groups k 0) (get_or b.marks k 0) (count_at k)
      (get_or b.levels (k * p + pt) 0)))
      (below_suc {P = λ i. count_at i ≡ 0} k)))
    where
      no_sum : {x y : ℕ} → x + y ≡ 0 ↔ (x ≡ 0) × (y ≡ 0)
      no_sum = (λ e. (omega arith, omega arith), λ h. omega arith)

  -- the rows of a sound book count or don't
  marked_exactly : (sound p b ≡ true) × (pt < p) → none_computed (book_shares p pt b) ≡ true ↔ NoneMarked p pt b
  unfolding none_computed book_shares
  marked_exactly ok =
      let n = length b.identities in
      let ss = shares_to p pt b n in
      let a = both (not (any_computed ss)) (ltb 0 (length ss)) (Iff.trans (opposite (any_computed ss)) (rows_any n))
      (Iff.trans (less 0 (length ss)) (Iff.trans (above (length ss)) (Iff.not (rows_length n)))) in
      let most : (i : ℕ) → i < n → count_at i ≤ 1 =
      λ i h. (((sound_exactly p b).only ok.0).row i h).count pt ok.1 in (
        λ e. record { stand = (a.0 e).1; none_marked = λ i h c. (a.0 e).0 i h (λ z. omega arith) },
        λ r. a.1 (λ i h c. r.none_marked i h (omega (arith, most i h, c)), r.stand),
      )
    where
      above : (n : ℕ) → 0 < n ↔ ¬ (n ≡ 0)
      above zero = (λ h e. omega arith, λ h. absurd (h refl))
      above (suc n) = (λ h e. omega arith, λ h. omega arith)

  pub book_refusals : (days : ℕ) → BookRefusals p pt b days
  unfolding book_load book_verdict judged_of
  book_refusals days =
      let f = both (sound p b) (ltb pt p) (λ e. e, λ e. e) (less pt p) in
      let fits = sound p b && ltb pt p in
      let ss = book_shares p pt b in
      record {
        load = load_under marked_exactly (load_numbers_rule fits ss days f (days_exactly days) Iff.rfl);
        verdict =
            λ limit. verdict_under marked_exactly
            (verdict_numbers_rule fits ss days f (days_exactly days) Iff.rfl limit (limit_exactly limit));
        told = λ limit n. refused_told _ _ n;
      }
