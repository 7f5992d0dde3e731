-- A call of a movement that doesn't count at a point changes nothing there. Assumes nothing.
use mathlib.Core.Path.{◌≡◌, refl, sym, ap, subst, ◌∙◌}
use mathlib.Core.{Bool.Bool, Bool.true, Bool.false, Bool.cond, List.List, List.[], List.◌∷◌}
use Prim.Native.Nat.{ℕ, ◌<◌}
use lib.{ListN.get_or, Dec.eqb, Dec.leb}
use borrow.Author.Tests.{eqb-true, eqb-false}
use Rattle.movement.specs.{Group.group_of, Rules.identity_fits}
use Rattle.book_rules.specs.Columns.{Book, sound}
use Rattle.book_rules.specs.Calls.{Call, Called, sound_refusal}
use Rattle.book_rules.specs.Calls.Call.{enter, supply, take_back, withdraw}
use Rattle.book_rules.specs.History.{Held, Movement, movement, added, holding, without, step, counts_for, rows_of}
use Rattle.book_rules.specs.History.Held.{none, holds}
use Rattle.book_rules.specs.Lookup.{found, counts_found}
use Rattle.book_rules.proofs.Accepted.{supplied, taken_back, withdrawn, identity_in, after_refused}
use Rattle.book_rules.proofs.Lookup.{Acted, acted, counts_before}
use Rattle.load_rules.specs.{Shares.Share, Shares.counting_at, Shares.shares_of, Shares.book_shares, Tally.tally}
use Rattle.load_rules.specs.{Load.book_load, Verdict.book_verdict, Account.account_from, Account.account_of}
use Rattle.load_rules.specs.Elsewhere.{SameAt, NotThere, NothingThere}
use Rattle.load_rules.proofs.Counting.{counting_left_out, counting_cons}
use Rattle.load_rules.proofs.{HistoryLaws.shares_rows, Determined.load_of_same, Determined.verdict_of_same}

module _ (p pt : ℕ) where
  -- The movements that count there, after each change of the list

  added_same : (m : Movement) (ms : List Movement) → get_or m.counts pt 0 ≡ 0
      → counting_at pt (added m ms) ≡ counting_at pt ms
  unfolding added
  added_same m [] e = counting_left_out pt m [] e
  added_same m (a ∷ ms) e = go (leb m.identity a.identity) (added_same m ms e)
    where
      go : (t : Bool) → counting_at pt (added m ms) ≡ counting_at pt ms
          → counting_at pt (cond t (m ∷ (a ∷ ms)) (a ∷ added m ms)) ≡ counting_at pt (a ∷ ms)
      go true r = counting_left_out pt m (a ∷ ms) e
      go false r = counting_cons pt a (added m ms) ms r

  -- a change at the movement x alone: what it and the rest become
  changed_same : (x : ℕ) (f : List Movement → List Movement) (at : Movement → List Movement → List Movement)
      → f [] ≡ []
      → ((a : Movement) (ms : List Movement) → f (a ∷ ms) ≡ cond (eqb a.identity x) (at a ms) (a ∷ f ms))
      → ((a : Movement) (ms : List Movement) → get_or a.counts pt 0 ≡ 0
      → counting_at pt (at a ms) ≡ counting_at pt ms)
      → (ms : List Movement) → get_or (counts_for x ms) pt 0 ≡ 0 → counting_at pt (f ms) ≡ counting_at pt ms
  unfolding counts_for
  changed_same x f at empty cons here [] e = ap (counting_at pt) empty
  changed_same x f at empty cons here (a ∷ ms) e =
      ap (counting_at pt) (cons a ms) ∙ go (eqb a.identity x) e (changed_same x f at empty cons here ms)
    where
      go : (t : Bool) → get_or (cond t a.counts (counts_for x ms)) pt 0 ≡ 0
          → (get_or (counts_for x ms) pt 0 ≡ 0 → counting_at pt (f ms) ≡ counting_at pt ms)
          → counting_at pt (cond t (at a ms) (a ∷ f ms)) ≡ counting_at pt (a ∷ ms)
      go true e r = here a ms e ∙ sym (counting_left_out pt a ms e)
      go false e r = counting_cons pt a (f ms) ms (r e)

  holding_same : (x : ℕ) (h : Held) (ms : List Movement) → get_or (counts_for x ms) pt 0 ≡ 0
      → counting_at pt (holding x h ms) ≡ counting_at pt ms
  unfolding holding
  holding_same x h =
      changed_same x (holding x h) (λ a ms. movement a.identity a.group a.counts h ∷ ms) refl (λ a ms. refl)
      (λ a ms e. counting_left_out pt (movement a.identity a.group a.counts h) ms e)

  without_same : (x : ℕ) (ms : List Movement) → get_or (counts_for x ms) pt 0 ≡ 0
      → counting_at pt (without x ms) ≡ counting_at pt ms
  unfolding without
  without_same x = changed_same x (without x) (λ a ms. ms) refl (λ a ms. refl) (λ a ms e. refl)

  -- An accepted call

  -- where x counts is found in the rows as in the list
  not_for : {b b' : Book} {c : Call} (a : Acted p b c b') (x : ℕ) → identity_fits x ≡ true
      → get_or (counts_found (found x p b)) pt 0 ≡ 0 → get_or (counts_for x a.list) pt 0 ≡ 0
  not_for a x i n = subst (λ (cs : List ℕ). get_or cs pt 0 ≡ 0) (counts_before a x (identity_in x i).0) n

  step_same : {b b' : Book} (c : Call) (a : Acted p b c b') → NotThere p pt b c
      → counting_at pt (step a.list c) ≡ counting_at pt a.list
  unfolding step sound_refusal rows_of
  step_same (enter x t k s m cs) a n = added_same (movement x (group_of t k s) cs none) a.list n
  step_same (supply x ls) a n =
      holding_same x (holds ls) a.list (not_for a x (supplied p _ _ x ls a.passed).0.identity= n)
  step_same (take_back x) a n =
      holding_same x none a.list (not_for a x (taken_back _ _ x a.passed).identity= n)
  step_same (withdraw x) a n = without_same x a.list (not_for a x (withdrawn _ x a.passed).identity= n)

  shares_same : {b b' : Book} (c : Call) (a : Acted p b c b') → NotThere p pt b c → pt < p
      → book_shares p pt b' ≡ book_shares p pt b
  shares_same c a n h =
      ap (book_shares p pt) a.after=
      ∙ shares_rows p pt a.step=.unused (step a.list c) a.step=.good h
      ∙ ap (shares_of pt) (step_same c a n)
      ∙ sym (ap (book_shares p pt) a.before ∙ shares_rows p pt a.unused a.list a.good h)

  accepted_same : {b b' : Book} (c : Call) → Called p b c 0 b' → NotThere p pt b c → SameAt p pt b b'
  unfolding book_load book_verdict account_of
  accepted_same {b} {b'} c k n =
      let a = acted k in
      let s : sound p b' ≡ sound p b = a.is_sound_rule ∙ sym a.was_sound in
      let e : pt < p → book_shares p pt b' ≡ book_shares p pt b = shares_same c a n in
      record {
        load = λ days. rw s (load_of_same p pt (sound p b) e days);
        verdict = λ days limit. rw s (verdict_of_same p pt (sound p b) e days limit);
        account = λ h days. ap (λ (ss : List Share). account_from (tally ss) days) (e h);
      }

-- any call on any book

pub nothing_there : (p pt : ℕ) (b : Book) (c : Call) (r : ℕ) (b' : Book) → NothingThere p pt b c r b'
nothing_there p pt b c r b' k n = go (eqb r 0) refl
  where
    go : (t : Bool) → eqb r 0 ≡ t → SameAt p pt b b'
    go true e = accepted_same p pt c (subst (λ i. Called p b c i b') (eqb-true r 0 e) k) n
    go false e =
        let same : b' ≡ b = k.book ∙ after_refused p b c (λ z. eqb-false r 0 e (k.answer ∙ z)) in
        subst (λ (v : Book). SameAt p pt b v) (sym same)
        (record { load = λ days. refl; verdict = λ days limit. refl; account = λ h days. refl })
