-- A load counts what look-up finds in the rows: each identity that stands and counts at the point, once. Assumes
-- nothing.
use mathlib.Core.{Path.◌≡◌, Path.refl, Path.sym, Path.ap, Path.subst, Path.fun_ext, Path.◌∙◌, Bool.Bool, Bool.true}
use mathlib.Core.{Bool.false, Bool.cond, Bool.◌&&◌, Bool.◌||◌, List.List, List.[], List.◌∷◌}
use Prim.Native.Nat.{ℕ, suc, ◌+◌, ◌*◌, ◌-◌, ◌%◌, ◌≤◌, ◌<◌}
use native.Mathlib.Omega.{arith}
use lib.{ListN.length, ListN.get_or, Dec.eqb, Dec.ltb}
use borrow.Author.Tests.{eqb-true, eqb-false, eq-eqb, ne_eqb}
use Rattle.refusal.proofs.Ranges.{within_at}
use Rattle.level.specs.Energy.{energy_of}
use Rattle.book_rules.specs.Columns.{Book, sound}
use Rattle.book_rules.specs.History.{Held, Movement, movement, has_levels, rows_of}
use Rattle.book_rules.specs.History.Held.{none, holds}
use Rattle.book_rules.specs.Lookup.{Row, row_held, listed}
use Rattle.book_rules.specs.Lookup.Row.{nowhere}
use Rattle.book_rules.proofs.{Standing.AllGood, Standing.Rising, Reading.book_read, Kept.read_rows}
use Rattle.book_rules.proofs.SoundBook.{sound_exactly}
use Rattle.book_rules.proofs.Listed.{rows_found, listed_none, listed_this, listed_later, below_none}
use Rattle.load_rules.specs.declared.{Group.Group}
use Rattle.load_rules.specs.Told.{LoadTold}
use Rattle.load_rules.specs.{Shares.Share, Shares.counting_at, Shares.shares_of, Shares.book_shares}
use Rattle.load_rules.specs.Tally.{group_with, tally}
use Rattle.load_rules.specs.Factors.{sum_to}
use Rattle.load_rules.specs.{Load.answer, Load.book_load}
use Rattle.load_rules.proofs.TallyLaws.{AllGrouped}
use Rattle.load_rules.specs.Afresh.{some_computed, computed_in, missing_in, energy_of_group, CountsEach, Brought}
use Rattle.load_rules.specs.Found.{one_there, marked_there, energy_there, over_all, FoundCounted, FoundAccount}
use Rattle.load_rules.proofs.SumLaws.{sum_add, sum_zero, sum_ext, sums_each}
use Rattle.load_rules.proofs.Counting.{counting_none, counting_kept, counting_left_out, counting_le}
use Rattle.load_rules.proofs.Counting.{counting_good}
use Rattle.load_rules.proofs.{HistoryLaws.shares_rows, HistoryLaws.shares_grouped, Brings.each_brings}
use Rattle.load_rules.proofs.ListLaws.{list_computed, list_missing, list_energy}
use Rattle.load_rules.proofs.Accounts.{told_same, book_account}
use Rattle.load_rules.proofs.{RowRefusals.book_refusals, CountedOnce.answer_counts, CountedOnce.load_answered}

-- What is found of each identity, over all identities

-- k at the identity x, and 0 at all others
sum_at_lem : (k x n : ℕ) → 1 ≤ x → x ≤ n → sum_to (λ i. cond (eqb x (suc i)) k 0) n ≡ k
sum_at_lem k x n low high =
    sum_ext _ (λ i. cond (eqb (x - 1) i) k 0) n (λ i h. each i (eqb x (suc i)) refl)
    ∙ sums_each.below k (x - 1) n (omega arith)
  where
    each : (i : ℕ) (t : Bool) → eqb x (suc i) ≡ t → cond t k 0 ≡ cond (eqb (x - 1) i) k 0
    each i true e = rw (eq-eqb (x - 1) i (omega (arith, eqb-true x (suc i) e))) refl
    each i false e = rw (ne_eqb (x - 1) i (λ z. eqb-false x (suc i) e (omega arith))) refl

module _ (p : ℕ) (w : Row → ℕ) where
  -- the row of a movement
  abbrev row_of : Movement → Row
  row_of a = row_held p a.group a.counts a.held

  -- over the rows of a list
  abbrev pub over_list : List Movement → ℕ
  over_list [] = 0
  over_list (a ∷ ms) = w (row_of a) + over_list ms

  -- each movement is found at its own identity, and at no other
  over_listed : w nowhere ≡ 0 → (ms : List Movement) → AllGood p ms → Rising ms
      → sum_to (λ i. w (listed (suc i) p ms)) 99999 ≡ over_list ms
  over_listed zero= [] g r =
      sum_ext _ (λ i. 0) 99999 (λ i h. ap w (listed_none (suc i) p) ∙ zero=) ∙ sum_zero 99999
  over_listed zero= (a ∷ ms) g r =
      sum_ext _ (λ i. cond (eqb a.identity (suc i)) (w (row_of a)) 0 + w (listed (suc i) p ms)) 99999
      (λ i h. each i (eqb a.identity (suc i)) refl)
      ∙ sum_add (λ i. cond (eqb a.identity (suc i)) (w (row_of a)) 0) (λ i. w (listed (suc i) p ms)) 99999
      ∙ omega (
        arith,
        sum_at_lem (w (row_of a)) a.identity 99999 g.0.low g.0.high,
        over_listed zero= ms g.1 r.1,
      )
    where
      each : (i : ℕ) (t : Bool) → eqb a.identity (suc i) ≡ t
          → w (listed (suc i) p (a ∷ ms)) ≡ cond t (w (row_of a)) 0 + w (listed (suc i) p ms)
      each i true e =
          let x = eqb-true a.identity (suc i) e in
          let after = subst (λ y. listed y p ms ≡ nowhere) x (below_none a.identity p ms r.0 r.1) in
          omega (arith, ap w (listed_this (suc i) p a ms x), ap w after, zero=)
      each i false e = omega (arith, ap w (listed_later (suc i) p a ms (eqb-false a.identity (suc i) e)))

  -- a book of these movements
  pub over_rows : w nowhere ≡ 0 → (u : ℕ) (ms : List Movement) → AllGood p ms → Rising ms
      → over_all p (rows_of p u ms) w ≡ over_list ms
  over_rows zero= u ms g r =
      sum_ext _ _ 99999 (λ i h. ap w (rows_found (suc i) p u ms (omega arith) g)) ∙ over_listed zero= ms g r

-- What one movement brings is what is found of it

module _ (p pt g : ℕ) where
  -- one movement alone
  one_found : (x h : ℕ) (cs : List ℕ) (held : Held) → get_or cs pt 0 ≤ 1
      → Brought pt g (movement x h cs held ∷ []) (marked_there pt g 1 (row_held p h cs held))
      (marked_there pt g 0 (row_held p h cs held)) (energy_there pt g (row_held p h cs held))
  unfolding row_held one_there marked_there energy_there
  one_found x h cs held most = go (eqb h g) refl (eqb (get_or cs pt 0) 1) refl held
    where
      go : (t : Bool) → eqb h g ≡ t → (c : Bool) → eqb (get_or cs pt 0) 1 ≡ c → (held : Held)
          → Brought pt g (movement x h cs held ∷ []) (marked_there pt g 1 (row_held p h cs held))
          (marked_there pt g 0 (row_held p h cs held)) (energy_there pt g (row_held p h cs held))
      go false e c d none = rw e ((each_brings pt).elsewhere g (movement x h cs none) (eqb-false h g e))
      go false e c d (holds ls) =
          rw e ((each_brings pt).elsewhere g (movement x h cs (holds ls)) (eqb-false h g e))
      go true e false d none =
          rw (e, d)
          ((each_brings pt).not_there g (movement x h cs none) (omega (arith, eqb-false (get_or cs pt 0) 1 d)))
      go true e false d (holds ls) =
          rw (e, d)
          ((each_brings pt).not_there g (movement x h cs (holds ls)) (omega (arith, eqb-false (get_or cs pt 0) 1 d)))
      go true e true d none =
          rw (e, d) (subst (λ k. Brought pt g (movement x k cs none ∷ []) 0 1 0) (sym (eqb-true h g e))
          ((each_brings pt).missing x g cs (eqb-true (get_or cs pt 0) 1 d)))
      go true e true d (holds ls) =
          rw (e, d)
          (subst (λ k. Brought pt g (movement x k cs (holds ls) ∷ []) 1 0 (energy_of (get_or ls pt 0 + 500 * (g % 3))))
          (sym (eqb-true h g e)) ((each_brings pt).computed x g cs ls (eqb-true (get_or cs pt 0) 1 d)))

  all_found : (ms : List Movement) → AllGood p ms
      → Brought pt g ms (over_list p (marked_there pt g 1) ms) (over_list p (marked_there pt g 0) ms)
      (over_list p (energy_there pt g) ms)
  all_found [] s = (each_brings pt).nobody g
  all_found (a ∷ ms) s =
      (each_brings pt).joined g _ _ _ _ _ _ (a ∷ []) ms
      (one_found a.identity a.group a.counts a.held (within_at 1 a.counts pt s.0.counted.within))
      (all_found ms s.1)

-- those that count there
counting_found : (p pt : ℕ) (ms : List Movement) → AllGood p ms
    → length (counting_at pt ms) ≡ over_list p (one_there pt) ms
unfolding row_held one_there
counting_found p pt [] s = ap length (counting_none pt)
counting_found p pt (a ∷ ms) s = go (eqb (get_or a.counts pt 0) 1) refl a.held (counting_found p pt ms s.1)
  where
    there : ℕ
    there = get_or a.counts pt 0

    length_all : (c : Bool) → eqb there 1 ≡ c → length (counting_at pt (a ∷ ms))
        ≡ cond c 1 0 + length (counting_at pt ms)
    length_all true e = ap length (counting_kept pt a ms (λ z. omega (arith, eqb-true there 1 e))) ∙ omega arith
    length_all false e =
        let most : there ≤ 1 = within_at 1 a.counts pt s.0.counted.within in
        ap length (counting_left_out pt a ms (omega (arith, eqb-false there 1 e))) ∙ omega arith

    go : (c : Bool) → eqb there 1 ≡ c → (held : Held)
        → length (counting_at pt ms) ≡ over_list p (one_there pt) ms
        → length (counting_at pt (a ∷ ms)) ≡ one_there pt (row_held p a.group a.counts held)
        + over_list p (one_there pt) ms
    go c e none i = rw e (omega (arith, length_all c e))
    go c e (holds ls) i = rw e (omega (arith, length_all c e))

-- one computed in a group is one of all
one_computed : (g : ℕ) (ms : List Movement) → 1 ≤ computed_in g ms → some_computed ms ≡ true
unfolding computed_in some_computed
one_computed g [] h = absurd (omega arith)
one_computed g (m ∷ ms) h = go (has_levels m.held) (eqb m.group g) h (one_computed g ms)
  where
    go : (t e : Bool) → 1 ≤ cond (e && t) 1 0 + computed_in g ms → (1 ≤ computed_in g ms → some_computed ms ≡ true)
        → (t || some_computed ms) ≡ true
    go true e l r = refl
    go false true l r = r (omega arith)
    go false false l r = r (omega arith)

-- An answered load of any book, and its account

module _ (p pt : ℕ) (b : Book) (ok : (sound p b ≡ true) × (pt < p)) where
  -- the movements of its rows, and those that count there
  all : List Movement
  all = (book_read p b ok.0).list

  here : List Movement
  here = counting_at pt all

  good : AllGood p all
  unfolding all
  good = (book_read p b ok.0).good

  shares : book_shares p pt b ≡ shares_of pt here
  unfolding here all
  shares =
      let r = book_read p b ok.0 in
      ap (book_shares p pt) (read_rows r) ∙ shares_rows p pt r.unused r.list r.good ok.1

  by_look_up : (w : Row → ℕ) → w nowhere ≡ 0 → over_list p w all ≡ over_all p b w
  unfolding all
  by_look_up w zero= =
      let r = book_read p b ok.0 in
      sym (ap (λ (v : Book). over_all p v w) (read_rows r)
      ∙ over_rows p w zero= r.unused r.list r.good r.rising)

  v_found : (g : ℕ) → computed_in g here ≡ over_all p b (marked_there pt g 1)
  unfolding here marked_there
  v_found g = (all_found p pt g all good).computed ∙ by_look_up (marked_there pt g 1) refl

  u_found : (g : ℕ) → missing_in g here ≡ over_all p b (marked_there pt g 0)
  unfolding here marked_there
  u_found g = (all_found p pt g all good).missing ∙ by_look_up (marked_there pt g 0) refl

  s_found : (g : ℕ) → energy_of_group pt g here ≡ over_all p b (energy_there pt g)
  unfolding here energy_there
  s_found g = (all_found p pt g all good).energy ∙ by_look_up (energy_there pt g) refl

  -- V, U and S of each group
  pub tally_found : (g : ℕ) → tally (book_shares p pt b) g
      ≡ group_with (over_all p b (marked_there pt g 1)) (over_all p b (marked_there pt g 0))
      (over_all p b (energy_there pt g))
  unfolding tally
  tally_found g =
      let each : tally (book_shares p pt b) g ≡ tally (shares_of pt here) g = ap (λ ss. tally ss g) shares in
      let v = ap (λ (c : Group). c.computed) each ∙ list_computed pt g here ∙ v_found g in
      let u = ap (λ (c : Group). c.missing) each ∙ list_missing pt g here ∙ u_found g in
      let s = ap (λ (c : Group). c.energy) each ∙ list_energy pt g here ∙ s_found g in
      λ i. group_with (v i) (u i) (s i)

  pub grouped : AllGrouped (book_shares p pt b)
  unfolding here
  grouped = subst AllGrouped (sym shares) (shares_grouped p pt here (counting_good pt p all good))

  each_counted : (days : ℕ) → (book_load p pt b days).refused ≡ 0
      → (book_load p pt b days ≡ answer (tally (shares_of pt here)) days)
      × CountsEach (book_load p pt b days) pt here days
  unfolding book_load here all
  each_counted days z =
      let fit : AllGood p here = counting_good pt p all good in
      let few : length here ≤ 50000 =
      omega (arith, counting_le pt all, (book_read p b ok.0).same, ((sound_exactly p b).only ok.0).rows.1) in
      let a : book_load p pt b days ≡ answer (tally (shares_of pt here)) days =
      load_answered (sound p b && ltb pt p) (book_shares p pt b) days z
      ∙ ap (λ (l : List Share). answer (tally l) days) shares in (
        a,
        subst (λ (l : LoadTold). CountsEach l pt here days) (sym a)
            (answer_counts pt here days (shares_grouped p pt here fit) p fit few),
      )

  counted : (days : ℕ) → (book_load p pt b days).refused ≡ 0 → FoundCounted (book_load p pt b days) p pt b days
  unfolding here answer one_there
  counted days z =
      let e = each_counted days z in
      let number = counting_found p pt all good ∙ by_look_up (one_there pt) refl in
      record {
        size = ap (λ (l : LoadTold). length l.counts) e.0;
        computed = λ g h. e.1.computed g h ∙ v_found g;
        missing = λ g h. e.1.missing g h ∙ u_found g;
        standing = e.1.standing ∙ number;
        total = rw (← fun_ext s_found) e.1.formulas;
        level = e.1.level;
        weighed = λ g h some.
            rw (← number) (e.1.weighed (one_computed g here (omega (arith, e.1.computed g h))));
        nobody = λ none-there. e.1.no_movement (number ∙ none-there);
      }

module _ (p pt : ℕ) (b : Book) (days : ℕ) (z : (book_load p pt b days).refused ≡ 0) where
  ok : (sound p b ≡ true) × (pt < p)
  ok = ((book_refusals p pt b days).load.answered.0 z).0

  pub found_counted : FoundCounted (book_load p pt b days) p pt b days
  found_counted = counted p pt b ok days z

  pub found_account : FoundAccount p pt b days
  found_account =
      let each = tally_found p pt b ok in
      told_same (fun_ext (λ g. ap (λ (c : Group). c.computed) (each g)))
      (fun_ext (λ g. ap (λ (c : Group). c.missing) (each g))) (fun_ext (λ g. ap (λ (c : Group). c.energy) (each g)))
      (book_account p pt b days z)
