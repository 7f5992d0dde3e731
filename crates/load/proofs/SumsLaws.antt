-- Laws of the load: from the sums that the code makes, and from the array of arrays. Assumes nothing.
use Rattle.std.specs.Prelude.{◌≡◌, ℕ, ◌+◌, ◌<◌, ◌≤◌, eqb, ltb, leb, Ok, Err}
use mathlib.Core.Path.{refl, ap, ◌∙◌}
use mathlib.Core.{Bool.Bool, Bool.true, Bool.false, Bool.cond, Bool.not, Bool.◌&&◌, List.List}
use native.Mathlib.Omega.{arith}
use borrow.Author.Tests.{leb-true, ltb-true}
use Rattle.level.specs.Level.{verdict_of}
use Rattle.movement.specs.Limits.{group_count}
use Rattle.refusal.specs.Refuse.{refuse}
use Rattle.refusal.specs.Refusal.{number_of}
use Rattle.refusal.specs.declared.Refusal.{Refusal}
use Rattle.refusal.proofs.Laws.{and_left, and_right, refuse_none, numbered}
use Rattle.book_rules.specs.Columns.{Book, sound}
use Rattle.load_rules.specs.declared.{Group.Group}
use Rattle.load_rules.specs.{Shares.Share, Shares.book_shares, Tally.tally, Tally.list_from}
use Rattle.load_rules.specs.Factors.{sum_to, known_sum, unknown_sum, general_factor}
use Rattle.load_rules.specs.Load.{counts_of, scaled_sum, total_of, days_fit, none_computed, load_refusal}
use Rattle.load_rules.specs.declared.Load.{Load}
use Rattle.load_rules.specs.Load.{answer, refused_load, load_of, load_told}
use Rattle.load_rules.specs.Told.{LoadTold}
use Rattle.load_rules.specs.Verdict.{limit_fits, verdict_refusal, judged, judged_of}
use Rattle.load_rules.proofs.{TallyLaws.AllGrouped, TallyLaws.rule_ten, FactorLaws.known_sum_lem}
use Rattle.load.specs.declared.{asked.Asked.Asked, sums.Sums.Sums, sums.Totals.Totals}
use Rattle.load.specs.InnerSteps.{table, group_at, Scalable, Bounded, sums_of, totals_of, asked_refusal, load_from}
use Rattle.load.specs.InnerSteps.{AskedOf, shares_asked}
use Rattle.load.proofs.BoundLaws.{scaled_sum_small}

-- From the sums that the code makes

module _ (cs : List (List (List Group))) (s : Sums) (same : s ≡ sums_of (group_at cs) group_count) where
  pub sums_fit : Bounded cs → Scalable s.scaled (s.known + s.unknown) s.known
  unfolding sums_of
  sums_fit b =
      rw same
      (record {
        movements = omega (arith, known_sum_lem (λ g. counts_of (group_at cs g)) group_count, b.movements);
        energy = omega (arith, scaled_sum_small (group_at cs) group_count b.energies);
      })

  -- the total and the level of an answer
  pub sums_totals : (days : ℕ) {t : Totals} → t ≡ totals_of s days
      → (t.total ≡ (answer (group_at cs) days).total) × (t.level ≡ (answer (group_at cs) days).level)
  unfolding totals_of sums_of answer total_of general_factor scaled_sum known_sum unknown_sum
  sums_totals days e = rw (e, same) (refl, refl)

  pub sums_none : {t : Bool} → t ≡ (eqb s.known 0 && ltb 0 s.unknown)
      → t ≡ (eqb (known_sum (λ g. counts_of (group_at cs g))) 0 && ltb 0 (unknown_sum (λ g. counts_of (group_at cs g))))
  unfolding sums_of known_sum unknown_sum
  sums_none e = e ∙ ap (λ (z : Sums). eqb z.known 0 && ltb 0 z.unknown) same

-- From the groups that were tallied

module _ (f : ℕ → Group) (days : ℕ) where
  abbrev none : Bool
  none = eqb (known_sum (λ g. counts_of (f g))) 0 && ltb 0 (unknown_sum (λ g. counts_of (f g)))

  pub from_refused : none ≡ true → load_from f days ≡ refused_load 10
  unfolding load_from
  from_refused e = rw e refl

  pub from_fine : none ≡ false → (load_from f days).refused ≡ 0
  unfolding load_from answer
  from_fine e = rw e refl

  pub from_answered : (load : Load) → none ≡ false
      → load.total ≡ (answer f days).total → load.level ≡ (answer f days).level
      → load.counts ≡ list_from (λ g. counts_of (f g)) 0 group_count → load_told (Ok load) ≡ load_from f days
  unfolding load_from answer
  from_answered load e t l c = rw (e, t, l, c) refl

  -- the array of arrays gives the load of what it holds
  pub from_table_rule : load_from (group_at (table f)) days ≡ load_from f days
  unfolding load_from answer total_of general_factor scaled_sum known_sum unknown_sum sum_to group_at table
  from_table_rule = refl

-- From the shares

-- the book is sound and the point is there
pub fits_there : (p pt : ℕ) (b : Book) → (sound p b && ltb pt p) ≡ true → (sound p b ≡ true) × (pt < p)
fits_there p pt b e = (and_left (sound p b) _ e, ltb-true pt p (and_right (sound p b) _ e))

-- past the first two refusals both fit
pub asked_days : (fits : Bool) (days : ℕ) → asked_refusal fits days ≡ 0 → days_fit days ≡ true
unfolding asked_refusal
asked_days fits days e =
    (refuse_none 11 (days_fit days) 0 (omega arith) (refuse_none 9 fits _ (omega arith) e).1).0

pub asked_shares : {p pt : ℕ} {b : Book} {a : Asked} → AskedOf p pt b a → shares_asked a ≡ book_shares p pt b
asked_shares same = rw (same.points_same, same.point_same, same.book_same) refl

pub asked_fits : (fits : Bool) (days : ℕ) → asked_refusal fits days ≡ 0 → fits ≡ true
unfolding asked_refusal
asked_fits fits days e = (refuse_none 9 fits _ (omega arith) e).0

-- and each of them is the load's and the verdict's
pub asked_load : (fits : Bool) (ss : List Share) (days n : ℕ) → n ≡ asked_refusal fits days → 0 < n
    → refused_load n ≡ load_of fits ss days
unfolding asked_refusal load_of load_refusal
asked_load false ss days n e h = ap refused_load e
asked_load true ss days n e h = go (days_fit days) e
  where
    go : (d : Bool) → n ≡ refuse 11 d 0
        → refused_load n ≡ cond (eqb (refuse 11 d (refuse 10 (not (none_computed ss)) 0)) 0) (answer (tally ss) days)
        (refused_load (refuse 11 d (refuse 10 (not (none_computed ss)) 0)))
    go false z = ap refused_load z
    go true z = absurd (omega arith)

pub asked_verdict : (fits : Bool) (ss : List Share) (days limit n : ℕ) → n ≡ asked_refusal fits days → 0 < n
    → Err n ≡ judged_of fits ss days limit
unfolding asked_refusal judged_of verdict_refusal judged
asked_verdict false ss days limit n e h = ap Err e
asked_verdict true ss days limit n e h = go (days_fit days) e
  where
    go : (d : Bool) → n ≡ refuse 11 d 0
        → Err n ≡ judged (refuse 11 d (refuse 15 (limit_fits limit) (refuse 10 (not (none_computed ss)) 0)))
        (verdict_of (answer (tally ss) days).level limit)
    go false z = ap Err z
    go true z = absurd (omega arith)

pub some_days : (days : ℕ) → days_fit days ≡ true → 1 ≤ days
unfolding days_fit
some_days days e = leb-true 1 days (and_left (leb 1 days) _ e)

module _ (ss : List Share) (days : ℕ) (fit : days_fit days ≡ true) where
  pub from_shares : AllGrouped ss → load_from (tally ss) days ≡ load_of true ss days
  unfolding load_from load_of load_refusal
  from_shares a = rw (rule_ten ss a, fit) (go (none_computed ss))
    where
      go : (t : Bool) → cond t (refused_load 10) (answer (tally ss) days)
          ≡ cond (eqb (cond (not t) 0 10) 0) (answer (tally ss) days) (refused_load (cond (not t) 0 10))
      go true = refl
      go false = refl

  -- the verdict is that on the load
  pub judged_answered : (load : Load) (limit : ℕ) → limit_fits limit ≡ true
      → load_told (Ok load) ≡ load_of true ss days
      → Ok (verdict_of load.level limit) ≡ judged_of true ss days limit
  unfolding judged_of verdict_refusal judged load_of load_refusal answer refused_load
  judged_answered load limit l = rw (fit, l) (go (none_computed ss))
    where
      go : (t : Bool) → load_told (Ok load) ≡ cond (eqb (cond (not t) 0 10) 0) (answer (tally ss) days)
          (refused_load (cond (not t) 0 10))
          → Ok (verdict_of load.level limit)
          ≡ judged (cond (not t) 0 10) (verdict_of (answer (tally ss) days).level limit)
      go true e = absurd (let refused : LoadTold → ℕ = λ a. a.refused in omega (arith, ap refused e))
      go false e = ap (λ (a : LoadTold). Ok (verdict_of a.level limit)) e

  pub judged_refused : (why : Refusal) (limit : ℕ) → limit_fits limit ≡ true
      → load_told (Err why) ≡ load_of true ss days
      → Err (number_of why) ≡ judged_of true ss days limit
  unfolding judged_of verdict_refusal judged load_of load_refusal answer refused_load
  judged_refused why limit l = rw (fit, l) (go (none_computed ss))
    where
      go : (t : Bool) → load_told (Err why) ≡ cond (eqb (cond (not t) 0 10) 0) (answer (tally ss) days)
          (refused_load (cond (not t) 0 10))
          → Err (number_of why)
          ≡ judged (cond (not t) 0 10) (verdict_of (answer (tally ss) days).level limit)
      go true e = ap (λ (a : LoadTold). Err a.refused) e
      go false e =
          absurd (let refused : LoadTold → ℕ = λ a. a.refused in omega (arith, ap refused e, numbered why))
