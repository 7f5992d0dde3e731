-- Demand 3: after any calls on an empty book, refused ones included, the load at each point is the one worked afresh
-- from the list of movements,
-- and where one that counts there is computed it is answered and counts every such movement once. Assumes nothing.
use mathlib.Core.Path.{◌≡◌, refl, sym, ap, subst, ◌∙◌}
use mathlib.Core.{Bool.Bool, Bool.true, Bool.false, Bool.cond, Bool.◌&&◌, List.List, List.[]}
use Prim.Native.Nat.{ℕ, zero, suc, ◌+◌, ◌*◌, ◌^◌, ◌≤◌, ◌<◌}
use native.Mathlib.{Nat.zero-div, Omega.arith}
use lib.{ListN.length, ListN.get_or, ListN.replicate, Dec.eqb, Dec.ltb, Dec.lit<}
use borrow.Author.Tests.{eqb-false, lt-ltb}
use Rattle.level.specs.{Energy.mean_of, Level.level_of}
use Rattle.level.proofs.Promises.{below-zero}
use Rattle.movement.specs.Limits.{group_count}
use Rattle.book_rules.specs.Columns.{Book, sound}
use Rattle.book_rules.specs.History.{Movement, sizes_fit, empty_book, Made, booked, movements}
use Rattle.book_rules.proofs.{Standing.AllGood, History.told_all, History.history_sound}
use Rattle.load_rules.specs.declared.{Group.Group, Counts.Counts}
use Rattle.load_rules.specs.Told.{LoadTold}
use Rattle.load_rules.specs.Shares.{Share, any_computed, shares_of, book_shares}
use Rattle.load_rules.specs.Tally.{sum_of, tally, list_from}
use Rattle.load_rules.specs.Factors.{sum_to, scaled_by, known, known_sum, unknown_sum, group_factor}
use Rattle.load_rules.specs.Factors.{general_factor}
use Rattle.load_rules.specs.Load.{counts_of, scaled_energy, scaled_sum, total_of, days_fit, none_computed}
use Rattle.load_rules.specs.Load.{load_refusal, answer, refused_load, load_of, book_load}
use Rattle.load_rules.specs.Verdict.{refusal_number, book_verdict}
use Rattle.load_rules.specs.Refusals.{InRange, DaysInRange, LimitInRange, NoneComputed, LoadNumbers}
use Rattle.load_rules.specs.Refusals.{VerdictNumbers}
use Rattle.load_rules.specs.Afresh.{list_load, list_verdict, some_computed, energy_of_group}
use Rattle.load_rules.specs.Afresh.{counts_at, TotalHolds, CountsEach, Alone, NobodyThere, standing_at}
use Rattle.load_rules.specs.Afresh.{EachCountedOnce}
use Rattle.load_rules.proofs.SumLaws.{sum_ext}
use Rattle.load_rules.proofs.FactorLaws.{never_divided, known_same, general_same, weights_all}
use Rattle.load_rules.proofs.TallyLaws.{counts, AllGrouped, counted_all, all_standing, some_known}
use Rattle.load_rules.proofs.ListLaws.{shares_count, shares_computed, list_computed, list_missing, list_energy}
use Rattle.load_rules.proofs.{Counting.counting_le, HistoryLaws.history_shares}
use Rattle.load_rules.proofs.HistoryLaws.{history_good, history_grouped}
use Rattle.load_rules.proofs.Determined.{over_exactly_when, load_of_same, verdict_of_same}
use Rattle.load_rules.proofs.RefusalLaws.{range_exactly, days_exactly, limit_exactly, ten_exactly}
use Rattle.load_rules.proofs.{RefusalLaws.load_numbers_rule, RefusalLaws.verdict_numbers_rule, Formulas.formulas}
use Rattle.load_rules.proofs.TotalBound.{energy_small, total_small, mean_small}

-- The counts of an answer

from_at : {A : Type 0} (f : ℕ → A) (d : A) (i n g : ℕ) → g < n → get_or (list_from f i n) g d ≡ f (i + g)
from_at f d i zero g h = absurd (omega arith)
from_at f d i (suc n) zero h = ap f (omega arith)
from_at f d i (suc n) (suc g) h =
    let e : suc i + g ≡ i + suc g = omega arith in
    from_at f d (suc i) n g (omega arith) ∙ ap f e

pub counts_at_lem : (f : ℕ → Group) (days g : ℕ) → g < group_count → counts_at (answer f days) g ≡ counts_of (f g)
unfolding answer
counts_at_lem f days g h =
    let e : 0 + g ≡ g = omega arith in
    from_at (λ i. counts_of (f i)) _ 0 group_count g h ∙ ap (λ i. counts_of (f i)) e

-- An answer counts each movement of its list once

module _ (pt : ℕ) (ms : List Movement) (days : ℕ) (grouped : AllGrouped (shares_of pt ms)) where
  abbrev ss : List Share
  ss = shares_of pt ms

  abbrev a : LoadTold
  a = answer (tally (shares_of pt ms)) days

  standing : sum_to (λ g. (counts_at a g).computed + (counts_at a g).missing) group_count ≡ length ms
  standing =
      sum_ext _ (λ g. (tally ss g).computed + (tally ss g).missing) group_count
      (λ g h. ap (λ (c : Counts). c.computed + c.missing) (counts_at_lem (tally ss) days g h))
      ∙ counted_all ss grouped ∙ shares_count pt ms

  energy : a.total
      ≡ scaled_by (general_factor (counts_at a))
      (sum_to (λ g. scaled_by (group_factor (counts_at a g)) (energy_of_group pt g ms)) group_count)
  unfolding answer total_of scaled_sum scaled_energy
  energy =
      rw (general_same (counts_at a) (counts ss) (counts_at_lem (tally ss) days))
      (ap (scaled_by (general_factor (counts ss)))
      (sum_ext _ _ group_count (λ g h. rw (counts_at_lem (tally ss) days g h, list_energy pt g ms) refl)))

  by_formulas : TotalHolds (λ g. (counts_at a g).computed) (λ g. (counts_at a g).missing)
      (λ g. energy_of_group pt g ms) a.total
  by_formulas = rw energy (formulas (counts_at a) (λ g. energy_of_group pt g ms))

  level : a.level ≡ level_of (mean_of a.total days)
  unfolding answer
  level = refl

  none_known : length ms ≡ 0 → known_sum (counts_at a) ≡ 0
  none_known z =
      omega (
        arith,
        (known_same (counts_at a) (counts ss) (counts_at_lem (tally ss) days)).0,
        all_standing ss grouped,
        shares_count pt ms,
      )

  no_total : length ms ≡ 0 → a.total ≡ 0
  unfolding general_factor
  no_total z = energy ∙ never_divided (general_factor (counts_at a)) _ (none_known z)

  fits : (p : ℕ) → AllGood p ms → length ms ≤ 50000 → mean_of a.total days < 2 ^ 64
  fits p good few =
      let t = total_small (counts_at a) (λ g. energy_of_group pt g ms)
      (λ g h. rw (counts_at_lem (tally ss) days g h, list_computed pt g ms) (energy_small p pt g ms good)) in
      let same = known_same (counts_at a) (counts ss) (counts_at_lem (tally ss) days) in
      omega (arith, mean_small a.total days, energy, same.0, same.1, all_standing ss grouped, shares_count pt ms)

  pub answer_counts : (p : ℕ) → AllGood p ms → length ms ≤ 50000
      → CountsEach (answer (tally (shares_of pt ms)) days) pt ms days
  answer_counts p good few =
      record {
        computed = λ g h. ap (λ (c : Counts). c.computed) (counts_at_lem (tally ss) days g h) ∙ list_computed pt g ms;
        missing = λ g h. ap (λ (c : Counts). c.missing) (counts_at_lem (tally ss) days g h) ∙ list_missing pt g ms;
        standing = standing;
        weighed = λ e.
            let same = known_same (counts_at a) (counts ss) (counts_at_lem (tally ss) days) in
            let some = some_known ss grouped (shares_computed pt ms ∙ e) in
            let n : known_sum (counts_at a) + unknown_sum (counts_at a) ≡ length ms =
            omega (arith, same.0, same.1, all_standing ss grouped, shares_count pt ms) in
            rw (← n) (weights_all (counts_at a) (omega (arith, same.0)));
        energy = energy;
        formulas = by_formulas;
        level = level;
        fits = fits p good few;
        no_movement = λ z. (no_total z, rw (level, no_total z, zero-div (86400 * days)) (below-zero 0 (lit< tt)));
      }

-- a load that is not refused is an answer
pub load_answered : (fits : Bool) (ss : List Share) (days : ℕ) → (load_of fits ss days).refused ≡ 0
    → load_of fits ss days ≡ answer (tally ss) days
unfolding load_of refused_load
load_answered fits ss days = go (eqb n 0) refl
  where
    n : ℕ
    n = load_refusal fits ss days

    go : (t : Bool) → eqb n 0 ≡ t → (cond t (answer (tally ss) days) (refused_load n)).refused ≡ 0
        → cond t (answer (tally ss) days) (refused_load n) ≡ answer (tally ss) days
    go true e z = refl
    go false e z = absurd (eqb-false n 0 e z)

-- and one that is refused has its number alone
repeated_at : {A : Type 0} (n g : ℕ) (d : A) → get_or (replicate n d) g d ≡ d
repeated_at zero g d = refl
repeated_at (suc n) zero d = refl
repeated_at (suc n) (suc g) d = repeated_at n g d

load_alone : (fits : Bool) (shares : List Share) (days : ℕ) → ¬ ((load_of fits shares days).refused ≡ 0)
    → Alone (load_of fits shares days)
unfolding load_of answer refused_load
load_alone fits shares days = go (eqb n 0) refl
  where
    n : ℕ
    n = load_refusal fits shares days

    go : (t : Bool) → eqb n 0 ≡ t → ¬ ((cond t (answer (tally shares) days) (refused_load n)).refused ≡ 0)
        → Alone (cond t (answer (tally shares) days) (refused_load n))
    go true e z = absurd (z refl)
    go false e z =
        record {
          total = refl;
          level = refl;
          counts =
              λ g h. let c =
              repeated_at {A = Counts} group_count g (record { computed = 0; missing = 0 }) in
              (ap (λ (x : Counts). x.computed) c, ap (λ (x : Counts). x.missing) c);
        }

-- After any calls on an empty book of n rows and p points

module _ (p pt n : ℕ) (cs : List Made) where
  abbrev book : Book
  book = booked (empty_book p n) cs

  -- what is worked from the rows is worked from the list
  load_afresh : (days : ℕ) → book_load p pt book days ≡ list_load p n pt (movements p n cs) days
  unfolding book_load list_load
  load_afresh days =
      rw (history_sound p n cs) (load_of_same p pt (sizes_fit p n) (history_shares p pt n cs) days)

  verdict_afresh : (days limit : ℕ)
      → book_verdict p pt book days limit ≡ list_verdict p n pt (movements p n cs) days limit
  unfolding book_verdict list_verdict
  verdict_afresh days limit =
      rw (history_sound p n cs) (verdict_of_same p pt (sizes_fit p n) (history_shares p pt n cs) days limit)

  refusals : (days : ℕ)
      → LoadNumbers (InRange p n pt) (DaysInRange days) (NoneComputed (standing_at p n pt cs))
      (book_load p pt book days).refused
  unfolding list_load
  refusals days =
      rw (load_afresh days)
      (load_numbers_rule (sizes_fit p n && ltb pt p) (shares_of pt (standing_at p n pt cs)) days (range_exactly p n pt)
      (days_exactly days) (ten_exactly pt (standing_at p n pt cs)))

  counts_each : (days : ℕ) → (book_load p pt book days).refused ≡ 0
      → CountsEach (book_load p pt book days) pt (standing_at p n pt cs) days
  unfolding list_load
  counts_each days z =
      let ss = shares_of pt (standing_at p n pt cs) in
      let fits = sizes_fit p n && ltb pt p in
      let e = load_afresh days ∙ load_answered fits ss days (rw (load_afresh days) at z) in
      let room : length (standing_at p n pt cs) ≤ 50000 =
      omega (
        arith,
        counting_le pt (movements p n cs),
        (told_all p n cs).same,
        ((refusals days).answered.0 z).0.rows.1,
      ) in
      subst (λ (a : LoadTold). CountsEach a pt (standing_at p n pt cs) days) (sym e)
      (answer_counts pt (standing_at p n pt cs) days (history_grouped p pt n cs) p (history_good p pt n cs) room)

  -- where nobody counts
  nobody : (days : ℕ) → InRange p n pt → DaysInRange days → length (standing_at p n pt cs) ≡ 0
      → NobodyThere (book_load p pt book days)
  nobody days range fit z =
      let fine = (refusals days).answered.1 (range, (fit, λ c. omega (arith, c.stand))) in
      let none = (counts_each days fine).no_movement z in
      record { answered = fine; total = none.0; below = none.1 }

  never_refused : (days : ℕ) → sizes_fit p n ≡ true → pt < p → days_fit days ≡ true
      → some_computed (standing_at p n pt cs) ≡ true
      → (book_load p pt book days).refused ≡ 0
  unfolding list_load load_of load_refusal none_computed answer
  never_refused days sizes there fit some =
      rw (load_afresh days, sizes, lt-ltb pt p there, fit, shares_computed pt (standing_at p n pt cs), some) refl

  verdict_refusals : (days limit : ℕ)
      → VerdictNumbers (InRange p n pt) (DaysInRange days) (LimitInRange limit) (NoneComputed (standing_at p n pt cs))
      (refusal_number (book_verdict p pt book days limit))
  unfolding list_verdict
  verdict_refusals days limit =
      rw (verdict_afresh days limit)
      (verdict_numbers_rule (sizes_fit p n && ltb pt p) (shares_of pt (standing_at p n pt cs)) days
      (range_exactly p n pt)
      (days_exactly days) (ten_exactly pt (standing_at p n pt cs)) limit (limit_exactly limit))

  alone : (days : ℕ) → ¬ ((book_load p pt book days).refused ≡ 0) → Alone (book_load p pt book days)
  unfolding book_load
  alone days = load_alone (sound p book && ltb pt p) (book_shares p pt book) days

  pub counted_once : (days : ℕ) → EachCountedOnce p n pt cs days
  counted_once days =
      record {
        afresh = load_afresh days;
        verdict = verdict_afresh days;
        answered = never_refused days;
        counts = counts_each days;
        nobody = nobody days;
        refusals = refusals days;
        alone = alone days;
        verdict_refusals = verdict_refusals days;
        over = λ limit. over_exactly_when p pt book days limit;
      }

-- a book with no movement: total 0, and below zero
pub no_movement : (days : ℕ) → days_fit days ≡ true → load_of true [] days ≡ refused_load 0
unfolding load_of load_refusal none_computed any_computed answer refused_load total_of general_factor scaled_by
    known_sum
    sum_to known tally sum_of level_of
no_movement days fit = rw (fit, zero-div (86400 * days)) refl
