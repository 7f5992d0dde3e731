-- The number of a verdict's answer; and two outcomes that meet the contract of a load, or of a verdict, are equal, as
-- is what is worked from the same shares. Assumes nothing.
use mathlib.Core.Path.{◌≡◌, refl, sym, ap, ◌∙◌}
use mathlib.Core.{Bool.Bool, Bool.true, Bool.false, Bool.cond, Bool.not, Bool.◌&&◌, List.List, Logic.◌↔◌}
use Prim.Native.Nat.{ℕ, suc, ◌≤◌, ◌<◌}
use native.Mathlib.Omega.{arith}
use lib.Dec.{eqb, ltb}
use borrow.Author.Tests.{eqb-true, eqb-false, ltb-true}
use Rattle.std.specs.Prelude.{Result, Ok, Err}
use Rattle.level.specs.declared.{Level.Level, Verdict.Verdict}
use Rattle.level.specs.Level.{level_given, level_value, verdict_of, verdict_number}
use Rattle.level.proofs.Neighbours.{by_neighbours}
use Rattle.refusal.specs.Refuse.{refuse}
use Rattle.refusal.specs.declared.Refusal.{Refusal}
use Rattle.refusal.proofs.Laws.{numbered, same_number}
use Rattle.book_rules.specs.Columns.{Book, sound}
use Rattle.load_rules.specs.declared.Load.{Load}
use Rattle.load_rules.specs.Told.{LoadTold, Judged, judged_told}
use Rattle.load_rules.specs.{Shares.Share, Shares.book_shares, Tally.tally}
use Rattle.load_rules.specs.Load.{days_fit, none_computed, load_refusal, answer, refused_load, load_of, book_load}
use Rattle.load_rules.specs.Load.{load_told}
use Rattle.load_rules.specs.Verdict.{limit_fits, verdict_refusal, refusal_number, over_number, judged, judged_of}
use Rattle.load_rules.specs.Verdict.{book_verdict, Judging}

-- the answer of a verdict has the number that the rules give
pub number-of : (n : ℕ) (v : Verdict) → refusal_number (judged n v) ≡ n
unfolding judged
number-of n v = go (eqb n 0) refl
  where
    go : (t : Bool) → eqb n 0 ≡ t → refusal_number (cond t (Ok v) (Err n)) ≡ n
    go true e = sym (eqb-true n 0 e)
    go false e = refl

-- and where it is a refusal that number is not 0
pub refused_told : (n : ℕ) (v : Verdict) (m : ℕ) → judged n v ≡ Err m → 1 ≤ m
unfolding judged
refused_told n v m = go (eqb n 0) refl
  where
    one_more : Judged → ℕ
    one_more (Err n) = suc n
    one_more (Ok v) = 0

    go : (t : Bool) → eqb n 0 ≡ t → cond t (Ok v) (Err n) ≡ Err m → 1 ≤ m
    go true e h = absurd (omega (arith, ap one_more h))
    go false e h = omega (arith, eqb-false n 0 e, ap one_more h)

over_of : (n : ℕ) (v : Verdict) → over_number (judged n v) ≡ cond (eqb n 0) (verdict_number v) 0
unfolding judged
over_of n v = go (eqb n 0)
  where
    go : (t : Bool) → over_number (cond t (Ok v) (Err n)) ≡ cond t (verdict_number v) 0
    go true = refl
    go false = refl

-- where a verdict is given, so is the load
level_of_lem : (fits : Bool) (ss : List Share) (days limit : ℕ) → verdict_refusal fits ss days limit ≡ 0
    → (load_of fits ss days).level ≡ (answer (tally ss) days).level
unfolding verdict_refusal load_of load_refusal
level_of_lem false ss days limit z = absurd (omega arith)
level_of_lem true ss days limit z = go (days_fit days) (limit_fits limit) (none_computed ss) z
  where
    go : (d l t : Bool) → refuse 11 d (refuse 15 l (refuse 10 (not t) 0)) ≡ 0
        → (cond (eqb (refuse 11 d (refuse 10 (not t) 0)) 0) (answer (tally ss) days)
        (refused_load (refuse 11 d (refuse 10 (not t) 0)))).level
        ≡ (answer (tally ss) days).level
    go false l t e = absurd (omega arith)
    go true false t e = absurd (omega arith)
    go true true true e = absurd (omega arith)
    go true true false e = refl

over_level : (fits : Bool) (ss : List Share) (days limit : ℕ)
    → over_number (judged_of fits ss days limit) ≡ cond (eqb (refusal_number (judged_of fits ss days limit)) 0)
    (verdict_number (verdict_of (load_of fits ss days).level limit)) 0
unfolding judged_of
over_level fits ss days limit =
    over_of n (verdict_of (answer (tally ss) days).level limit)
    ∙ rw (number-of n (verdict_of (answer (tally ss) days).level limit)) (go (eqb n 0) refl)
  where
    n : ℕ
    n = verdict_refusal fits ss days limit

    go : (t : Bool) → eqb n 0 ≡ t
        → cond t (verdict_number (verdict_of (answer (tally ss) days).level limit)) 0
        ≡ cond t (verdict_number (verdict_of (load_of fits ss days).level limit)) 0
    go true e = rw (level_of_lem fits ss days limit (eqb-true n 0 e)) refl
    go false e = refl

pub judging : {p pt : ℕ} {b : Book} {days limit : ℕ} {r : Judged} → r ≡ book_verdict p pt b days limit
    → Judging p pt b days limit r
unfolding book_verdict book_load judged_of
judging {p} {pt} {b} {days} {limit} {r} e =
    record {
      number = ap refusal_number e ∙ number-of _ _;
      over = rw e (over_level (sound p b && ltb pt p) (book_shares p pt b) days limit);
      answer = e;
    }

-- over exactly if a verdict is given and the load's level is, and is greater than the limit
pub over_exactly_when : (p pt : ℕ) (b : Book) (days limit : ℕ)
    → over_number (book_verdict p pt b days limit) ≡ 1
    ↔ (refusal_number (book_verdict p pt b days limit) ≡ 0) × (level_given (book_load p pt b days).level ≡ 1)
    × (limit < level_value (book_load p pt b days).level)
over_exactly_when p pt b days limit = go (eqb (refusal_number r) 0) refl (judging {r = r} refl).over
  where
    r : Judged
    r = book_verdict p pt b days limit

    l : Level
    l = (book_load p pt b days).level

    go : (t : Bool) → eqb (refusal_number r) 0 ≡ t → over_number r ≡ cond t (verdict_number (verdict_of l limit)) 0
        → over_number r ≡ 1 ↔ (refusal_number r ≡ 0) × (level_given l ≡ 1) × (limit < level_value l)
    go true e o =
        let w = by_neighbours.over l limit in
        (λ h. let h' = w.0 (sym o ∙ h) in (eqb-true _ 0 e, h'.0, h'.1), λ h. o ∙ w.1 (h.1, h.2))
    go false e o = (λ h. absurd (omega arith), λ h. absurd (eqb-false _ 0 e h.0))

abbrev refused : LoadTold → ℕ
refused l = l.refused

-- what is told says which outcome it is
same_load_told : (r s : Result Load Refusal) → load_told r ≡ load_told s → r ≡ s
unfolding refused_load
same_load_told (Ok a) (Ok b) e =
    ap (λ (l : LoadTold). Ok (record { total = l.total; level = l.level; counts = l.counts })) e
same_load_told (Ok a) (Err why) e = absurd (omega (arith, ap refused e, numbered why))
same_load_told (Err why) (Ok b) e = absurd (omega (arith, ap refused e, numbered why))
same_load_told (Err why) (Err more) e = ap Err (same_number why more (ap refused e))

same_judged_told : (r s : Result Verdict Refusal) → judged_told r ≡ judged_told s → r ≡ s
same_judged_told (Ok v) (Ok w) e = ap Ok (cc)
same_judged_told (Ok v) (Err why) e = cc
same_judged_told (Err why) (Ok w) e = cc
same_judged_told (Err why) (Err more) e = ap Err (same_number why more (cc))

pub same_load : (p pt : ℕ) (b : Book) (days : ℕ) (r s : Result Load Refusal) → load_told r ≡ book_load p pt b days
    → load_told s ≡ book_load p pt b days → r ≡ s
same_load p pt b days r s e f = same_load_told r s (e ∙ sym f)

pub same_verdict : (p pt : ℕ) (b : Book) (days limit : ℕ) (r s : Result Verdict Refusal)
    → Judging p pt b days limit (judged_told r) → Judging p pt b days limit (judged_told s) → r ≡ s
same_verdict p pt b days limit r s e f = same_judged_told r s (e.answer ∙ sym f.answer)

-- shares that are the same at a point that is there: z is all else that has to fit
module _ (p pt : ℕ) (z : Bool) {xs ys : List Share} (e : pt < p → xs ≡ ys) where
  -- what is worked from them is the same, where it is so of any shares that don't fit
  worked_same : {A : Type 0} (k : Bool → List Share → A) → k false xs ≡ k false ys
      → k (z && ltb pt p) xs ≡ k (z && ltb pt p) ys
  worked_same k same = go z (ltb pt p) refl
    where
      go : (s t : Bool) → ltb pt p ≡ t → k (s && t) xs ≡ k (s && t) ys
      go false t l = same
      go true false l = same
      go true true l = ap (k true) (e (ltb-true pt p l))

  pub load_of_same : (days : ℕ) → load_of (z && ltb pt p) xs days ≡ load_of (z && ltb pt p) ys days
  unfolding load_of load_refusal
  load_of_same days = worked_same (λ t ss. load_of t ss days) refl

  pub verdict_of_same : (days limit : ℕ)
      → judged_of (z && ltb pt p) xs days limit ≡ judged_of (z && ltb pt p) ys days limit
  unfolding judged_of judged verdict_refusal
  verdict_of_same days limit = worked_same (λ t ss. judged_of t ss days limit) refl
