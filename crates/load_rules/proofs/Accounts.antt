-- An account by look-up: what each of its 78 numbers is, and that V, U, total and level are the load's.
-- Assumes nothing.
use mathlib.Core.{Path.◌≡◌, Path.refl, Path.sym, Path.ap, Path.fun_ext, Path.◌∙◌, Bool.◌&&◌, List.List}
use mathlib.Core.Logic.{⊎_elim}
use Prim.Native.Nat.{ℕ, zero, suc, ◌+◌, ◌*◌, ◌<◌}
use native.Mathlib.{Nat.eq-or-lt_of_le, Omega.arith}
use lib.{ListN.length, ListN.get_or, ListN.length-append, ListN.get_or-append, Seq.get_or-append-add, Dec.ltb}
use Rattle.movement.specs.Limits.{group_count}
use Rattle.book_rules.specs.Columns.{Book, sound}
use Rattle.book_rules.specs.History.{Movement, Made, empty_book, booked}
use Rattle.load_rules.specs.declared.{Group.Group, Counts.Counts}
use Rattle.load_rules.specs.Told.{LoadTold}
use Rattle.load_rules.specs.{Shares.shares_of, Shares.book_shares, Tally.tally}
use Rattle.load_rules.specs.Factors.{known_sum, group_factor, general_factor}
use Rattle.load_rules.specs.Load.{counts_of, scaled_energy, scaled_sum, total_of, answer, book_load}
use Rattle.load_rules.specs.Afresh.{load_after, standing_at}
use Rattle.load_rules.specs.Account.{group_numbers, groups_to, whole_numbers, account_from, groups_of, account_of}
use Rattle.load_rules.specs.Account.{whole_from, account_size, AccountTells, AccountsEach}
use Rattle.load_rules.proofs.{SumLaws.sum_ext, FactorLaws.never_divided}
use Rattle.load_rules.proofs.Formulas.{known_summed, unknown_summed, quotient}
use Rattle.load_rules.proofs.TallyLaws.{all_standing}
use Rattle.load_rules.proofs.ListLaws.{shares_count, list_computed, list_missing, list_energy}
use Rattle.load_rules.proofs.HistoryLaws.{history_shares, history_grouped}
use Rattle.load_rules.proofs.CountedOnce.{counts_at_lem, load_answered, counted_once}

-- The numbers by their places

module _ (f : ℕ → Group) where
  pub length_groups : (n : ℕ) → length (groups_to f n) ≡ 4 * n
  unfolding groups_to
  length_groups zero = refl
  length_groups (suc n) = length-append (groups_to f n) (group_numbers (f n)) ∙ omega (arith, length_groups n)

  -- number j of group g, among the groups below n
  group_number_rule : (n g j : ℕ) → g < n → j < 4
      → get_or (groups_to f n) (4 * g + j) 0 ≡ get_or (group_numbers (f g)) j 0
  unfolding groups_to
  group_number_rule zero g j h k = absurd (omega arith)
  group_number_rule (suc n) g j h k =
      let long = length_groups n in
      ⊎_elim
      (λ e.
      let at : 4 * g + j ≡ length (groups_to f n) + j = omega arith in
      ap (λ i. get_or (groups_to f (suc n)) i 0) at
      ∙ get_or-append-add (groups_to f n) (group_numbers (f n)) j 0
      ∙ ap (λ i. get_or (group_numbers (f i)) j 0) (sym e))
      (λ l.
      get_or-append (groups_to f n) (group_numbers (f n)) 0 (4 * g + j) (omega arith) ∙ group_number_rule n g j l k)
      (eq-or-lt_of_le {n = g} {m = n} (omega arith))

  module _ (days : ℕ) where
    -- the numbers of the whole
    abbrev whole : List ℕ
    whole =
        whole_numbers (general_factor (λ g. counts_of (f g))) (scaled_sum f) (answer f days).total
        (answer f days).level

    pub length_account : length (account_from f days) ≡ account_size
    unfolding account_from
    length_account = length-append (groups_to f group_count) whole ∙ omega (arith, length_groups group_count)

    pub account_group : (g j : ℕ) → g < group_count → j < 4
        → get_or (account_from f days) (4 * g + j) 0 ≡ get_or (group_numbers (f g)) j 0
    unfolding account_from
    account_group g j h k =
        let long = length_groups group_count in
        get_or-append (groups_to f group_count) whole 0 (4 * g + j) (omega arith)
        ∙ group_number_rule group_count g j h k

    pub account_whole : (j : ℕ) → get_or (account_from f days) (whole_from + j) 0 ≡ get_or whole j 0
    unfolding account_from
    account_whole j =
        ap (λ n. get_or (account_from f days) (n + j) 0) (sym (length_groups group_count))
        ∙ get_or-append-add (groups_to f group_count) whole j 0

    group_first : (g : ℕ) → g < group_count → get_or (account_from f days) (4 * g) 0 ≡ (f g).computed
    group_first g h =
        let e : 4 * g ≡ 4 * g + 0 = omega arith in
        ap (λ i. get_or (account_from f days) i 0) e ∙ account_group g 0 h (omega arith)

    -- What they are

    pub account_tells : AccountTells (λ g. (f g).computed) (λ g. (f g).missing) (λ g. (f g).energy) (answer f days)
        (account_from f days)
    unfolding answer total_of scaled_sum scaled_energy general_factor
    account_tells =
        let c : ℕ → Counts = λ g. counts_of (f g) in
        record {
          size = length_account;
          computed = group_first;
          missing = λ g h. account_group g 1 h (omega arith);
          energy = λ g h. account_group g 2 h (omega arith);
          scaled =
              λ g h p. rw (account_group g 3 h (omega arith)) (quotient (group_factor (c g)) (f g).energy p);
          nothing = λ g h z. account_group g 3 h (omega arith) ∙ never_divided (group_factor (c g)) (f g).energy z;
          lower = account_whole 1 ∙ known_summed c;
          upper = rw (account_whole 0, account_whole 1) (ap (λ n. known_sum c + n) (unknown_summed c));
          summed =
              account_whole 2
              ∙ sum_ext _ _ group_count (λ g h. sym (account_group g 3 h (omega arith)));
          product =
              rw (account_whole 0, account_whole 1, account_whole 2, account_whole 3)
              (λ h. quotient (general_factor c) (scaled_sum f) h);
          empty =
              rw (account_whole 1, account_whole 3) (λ h. never_divided (general_factor c) (scaled_sum f) h);
          load_computed = λ g h. ap (λ (x : Counts). x.computed) (counts_at_lem f days g h);
          load_missing = λ g h. ap (λ (x : Counts). x.missing) (counts_at_lem f days g h);
          total = account_whole 3;
          given = account_whole 4;
          level = account_whole 5;
        }

-- Of a book whose load is answered

pub book_account : (p pt : ℕ) (b : Book) (days : ℕ) → (book_load p pt b days).refused ≡ 0
    → AccountTells (λ g. (groups_of p pt b g).computed) (λ g. (groups_of p pt b g).missing)
    (λ g. (groups_of p pt b g).energy) (book_load p pt b days) (account_of p pt b days)
unfolding book_load account_of
book_account p pt b days z =
    let ss = book_shares p pt b in
    rw (load_answered (sound p b && ltb pt p) ss days z) (account_tells (tally ss) days)

-- After any calls on an empty book of n rows and p points

pub told_same : {v v' u u' s s' : ℕ → ℕ} {load : LoadTold} {numbers : List ℕ}
    → v ≡ v' → u ≡ u' → s ≡ s' → AccountTells v u s load numbers
    → AccountTells v' u' s' load numbers
told_same a b c t = rw (← a, ← b, ← c) t

pub accounts_each : (p n pt : ℕ) (cs : List Made) (days : ℕ) → (load_after p n pt cs days).refused ≡ 0
    → AccountsEach p n pt cs days
unfolding account_of general_factor
accounts_each p n pt cs days z =
    let there = ((counted_once p pt n cs days).refusals.answered.0 z).0.there in
    let b : Book = booked (empty_book p n) cs in
    let ms : List Movement = standing_at p n pt cs in
    let same : book_shares p pt b ≡ shares_of pt ms = history_shares p pt n cs there in
    let each : (g : ℕ) → groups_of p pt b g ≡ tally (shares_of pt ms) g = λ g. ap (λ ss. tally ss g) same in
    record {
      tells =
          told_same (fun_ext (λ g. ap (λ (c : Group). c.computed) (each g) ∙ list_computed pt g ms))
          (fun_ext (λ g. ap (λ (c : Group). c.missing) (each g) ∙ list_missing pt g ms))
          (fun_ext (λ g. ap (λ (c : Group). c.energy) (each g) ∙ list_energy pt g ms))
          (book_account p pt b days z);
      standing =
          rw same
          (account_whole (tally (shares_of pt ms)) days 0
          ∙ all_standing (shares_of pt ms) (history_grouped p pt n cs)
          ∙ shares_count pt ms);
    }
