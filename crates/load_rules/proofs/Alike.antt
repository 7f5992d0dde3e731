-- Two books that show the same at a point have the same load, verdict and account there. Assumes nothing.
use mathlib.Core.{Path.◌≡◌, Path.refl, Path.sym, Path.ap, Path.fun_ext, Path.◌∙◌, Bool.Bool, Bool.true, Bool.false}
use mathlib.Core.{Bool.cond, Bool.◌&&◌, List.List}
use Prim.Native.Nat.{ℕ, suc, ◌+◌, ◌*◌, ◌%◌}
use native.Mathlib.Omega.{arith}
use lib.{ListN.get_or, Dec.eqb, Dec.ltb}
use Rattle.level.specs.Energy.{energy_of}
use Rattle.book_rules.specs.Columns.{Book}
use Rattle.book_rules.specs.Lookup.{Row, found}
use Rattle.book_rules.specs.Lookup.Row.{nowhere, row}
use Rattle.load_rules.specs.declared.Group.{Group}
use Rattle.load_rules.specs.{Shares.Share, Shares.book_shares, Tally.group_with, Tally.tally}
use Rattle.load_rules.specs.Factors.{known_sum, unknown_sum}
use Rattle.load_rules.specs.Load.{counts_of, none_computed, load_refusal, load_of, book_load}
use Rattle.load_rules.specs.Verdict.{verdict_refusal, judged_of, book_verdict}
use Rattle.load_rules.specs.Account.{account_from, account_of}
use Rattle.load_rules.specs.Found.{marked_there, energy_there, over_all}
use Rattle.load_rules.specs.Elsewhere.{Seen, seen_at, AlikeThere}
use Rattle.load_rules.specs.Elsewhere.Seen.{unseen, seen}
use Rattle.load_rules.proofs.{SumLaws.sum_ext, TallyLaws.AllGrouped, TallyLaws.rule_ten}
use Rattle.load_rules.proofs.Found.{tally_found, grouped}

-- what is counted of an identity is what is seen of it

abbrev marked_seen : (group mark : ℕ) → Seen → ℕ
marked_seen g m unseen = 0
marked_seen g m (seen h k l) = cond (eqb h g && (eqb k m && true)) 1 0

abbrev energy_seen : (group : ℕ) → Seen → ℕ
energy_seen g unseen = 0
energy_seen g (seen h k l) = cond (eqb h g && (eqb k 1 && true)) (energy_of (l + 500 * (g % 3))) 0

-- where it isn't there, nothing is picked
not_there : (s t : Bool) (k : ℕ) → cond (s && (t && false)) k 0 ≡ 0
not_there true true k = refl
not_there true false k = refl
not_there false t k = refl

marked_seen_lem : (pt g m : ℕ) (r : Row) → marked_there pt g m r ≡ marked_seen g m (seen_at pt r)
unfolding marked_there seen_at
marked_seen_lem pt g m nowhere = refl
marked_seen_lem pt g m (row h k cs ls) = go (eqb (get_or cs pt 0) 1)
  where
    go : (t : Bool)
        → cond (eqb h g && (eqb k m && t)) 1 0 ≡ marked_seen g m (cond t (seen h k (get_or ls pt 0)) unseen)
    go true = refl
    go false = not_there (eqb h g) (eqb k m) 1

energy_seen_lem : (pt g : ℕ) (r : Row) → energy_there pt g r ≡ energy_seen g (seen_at pt r)
unfolding energy_there seen_at
energy_seen_lem pt g nowhere = refl
energy_seen_lem pt g (row h k cs ls) = go (eqb (get_or cs pt 0) 1)
  where
    go : (t : Bool)
        → cond (eqb h g && (eqb k 1 && t)) (energy_of (get_or ls pt 0 + 500 * (g % 3))) 0
        ≡ energy_seen g (cond t (seen h k (get_or ls pt 0)) unseen)
    go true = refl
    go false = not_there (eqb h g) (eqb k 1) (energy_of (get_or ls pt 0 + 500 * (g % 3)))

-- shares with the same V, U and S

module _ (xs ys : List Share) (a : AllGrouped xs) (b : AllGrouped ys) (t : tally xs ≡ tally ys) (fits : Bool)
    (days : ℕ) where
  none_same : none_computed xs ≡ none_computed ys
  none_same =
      sym (rule_ten xs a)
      ∙ ap (λ (f : ℕ → Group). eqb (known_sum (λ g. counts_of (f g))) 0 && ltb 0 (unknown_sum (λ g. counts_of (f g)))) t
      ∙ rule_ten ys b

  load_same : load_of fits xs days ≡ load_of fits ys days
  unfolding load_of load_refusal
  load_same = rw (none_same, t) refl

  judged_same : (limit : ℕ) → judged_of fits xs days limit ≡ judged_of fits ys days limit
  unfolding judged_of verdict_refusal
  judged_same limit = rw (none_same, t) refl

pub alike_there : (p pt : ℕ) (b b' : Book) → AlikeThere p pt b b'
unfolding book_load book_verdict account_of
alike_there p pt b b' ok ok' h alike =
    let same : (w : Row → ℕ) (v : Seen → ℕ) → ((r : Row) → w r ≡ v (seen_at pt r)) → over_all p b w ≡ over_all p b' w =
    λ w v e. sum_ext _ _ 99999
    (λ i l. e (found (suc i) p b) ∙ ap v (alike (suc i) (omega arith) (omega arith)) ∙ sym (e (found (suc i) p b'))) in
    let v : (g m : ℕ) → over_all p b (marked_there pt g m) ≡ over_all p b' (marked_there pt g m) =
    λ g m. same (marked_there pt g m) (marked_seen g m) (marked_seen_lem pt g m) in
    let s : (g : ℕ) → over_all p b (energy_there pt g) ≡ over_all p b' (energy_there pt g) =
    λ g. same (energy_there pt g) (energy_seen g) (energy_seen_lem pt g) in
    let xs = book_shares p pt b in
    let ys = book_shares p pt b' in
    let t : tally xs ≡ tally ys =
    fun_ext (λ g.
    tally_found p pt b (ok, h) g ∙ (λ i. group_with (v g 1 i) (v g 0 i) (s g i))
    ∙ sym (tally_found p pt b' (ok', h) g)) in
    let c = grouped p pt b (ok, h) in
    let d = grouped p pt b' (ok', h) in
    record {
      load = λ days. rw (ok, ok') (sym (load_same xs ys c d t (true && ltb pt p) days));
      verdict = λ days limit. rw (ok, ok') (sym (judged_same xs ys c d t (true && ltb pt p) days limit));
      account = λ l days. ap (λ (f : ℕ → Group). account_from f days) (sym t);
    }
