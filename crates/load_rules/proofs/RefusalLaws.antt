-- Each refusal of a load and of a verdict is given exactly where its reason holds and no earlier one does.
-- Assumes nothing.
use mathlib.Core.Path.{◌≡◌, refl, sym, ap, ◌∙◌}
use mathlib.Core.Bool.{Bool, true, false, cond, not, ◌&&◌, ◌||◌, false≢true}
use mathlib.Core.Logic.Iff
use mathlib.Core.{List.List, List.[], List.◌∷◌, Logic.◌↔◌}
use Prim.Native.Nat.{ℕ, zero, suc, ◌<◌}
use native.Mathlib.Omega.{arith}
use lib.{ListN.length, Dec.eqb, Dec.leb, Dec.ltb}
use borrow.Author.Tests.{eqb-true}
use Rattle.movement.proofs.Exactly.{less, most, both, opposite, refused_first_lem, refused_later, not_given}
use Rattle.refusal.specs.Refuse.{refuse}
use Rattle.book_rules.specs.History.{Held, Movement, sizes_fit, has_levels}
use Rattle.book_rules.specs.History.Held.{none, holds}
use Rattle.load_rules.specs.{Shares.Share, Shares.shares_of, Tally.tally}
use Rattle.load_rules.specs.Load.{days_fit, none_computed, load_refusal, answer, refused_load, load_of}
use Rattle.load_rules.specs.Verdict.{limit_fits, verdict_refusal, refusal_number, judged_of}
use Rattle.load_rules.specs.Afresh.{some_computed}
use Rattle.load_rules.specs.Refusals.{InRange, DaysInRange, LimitInRange, NoneHeld, NoneComputed, LoadNumbers}
use Rattle.load_rules.specs.Refusals.{VerdictNumbers}
use Rattle.load_rules.proofs.{ListLaws.shares_count, ListLaws.shares_computed, Determined.number-of}

-- The reasons

pub range_exactly : (p n pt : ℕ) → (sizes_fit p n && ltb pt p) ≡ true ↔ InRange p n pt
unfolding sizes_fit
range_exactly p n pt =
    let b =
    both _ (ltb pt p)
    (both _ _ (both (leb 1 p) (leb p 8) (most 1 p) (most p 8))
    (both (leb 1 n) (leb n 50000) (most 1 n) (most n 50000))) (less pt p) in (
      λ e. record { points = (b.0 e).0.0; rows = (b.0 e).0.1; there = (b.0 e).1 },
      λ r. b.1 ((r.points, r.rows), r.there),
    )

pub days_exactly : (days : ℕ) → days_fit days ≡ true ↔ DaysInRange days
unfolding days_fit
days_exactly days = both (leb 1 days) (leb days 366) (most 1 days) (most days 366)

pub limit_exactly : (limit : ℕ) → limit_fits limit ≡ true ↔ LimitInRange limit
unfolding limit_fits
limit_exactly limit = most limit 12000

-- none of the list computed, by look-up
held_exactly : (h : Held) → has_levels h ≡ false ↔ h ≡ none
unfolding has_levels
held_exactly none = (λ e. refl, λ e. refl)
held_exactly (holds ls) = (λ e. absurd (false≢true (sym e)), λ e. ap has_levels e)

pub none_exactly : (ms : List Movement) → some_computed ms ≡ false ↔ NoneHeld ms
unfolding some_computed
none_exactly [] = (λ e i h. absurd (omega arith), λ f. refl)
none_exactly (m ∷ ms) = go (has_levels m.held) refl (none_exactly ms)
  where
    go : (t : Bool) → has_levels m.held ≡ t → some_computed ms ≡ false ↔ NoneHeld ms
        → (t || some_computed ms) ≡ false ↔ NoneHeld (m ∷ ms)
    go true e f = (
      λ g. absurd (false≢true (sym g)),
      λ g. absurd (false≢true (sym ((held_exactly m.held).1 (g 0 (omega arith))) ∙ e)),
    )
    go false e f = (each ((held_exactly m.held).0 e), λ g. f.1 (λ i h. g (suc i) (omega arith)))
      where
        each : m.held ≡ none → some_computed ms ≡ false → NoneHeld (m ∷ ms)
        each first rest zero h = first
        each first rest (suc i) h = f.0 rest i (omega arith)

pub ten_exactly : (pt : ℕ) (ms : List Movement) → none_computed (shares_of pt ms) ≡ true ↔ NoneComputed ms
unfolding none_computed
ten_exactly pt ms =
    rw (shares_computed pt ms, shares_count pt ms)
    (go (both (not (some_computed ms)) (ltb 0 (length ms))
    (Iff.trans (opposite (some_computed ms)) (none_exactly ms)) (less 0 (length ms))))
  where
    go : {t : Bool} → t ≡ true ↔ NoneHeld ms × (0 < length ms) → t ≡ true ↔ NoneComputed ms
    go b = (λ e. record { stand = (b.0 e).1; none_held = (b.0 e).0 }, λ n. b.1 (n.none_held, n.stand))

-- The order

-- the last refusal, of a test that fails where the reason holds
ten_last : (t : Bool) {N : Type 0} → t ≡ true ↔ N → refuse 10 (not t) 0 ≡ 10 ↔ N
ten_last true f = (λ e. f.0 refl, λ h. refl)
ten_last false f = (λ e. absurd (omega arith), λ h. absurd (false≢true (f.1 h)))

none_last : (t : Bool) {N : Type 0} → t ≡ true ↔ N → refuse 10 (not t) 0 ≡ 0 ↔ ¬ N
none_last true f = (λ e. absurd (omega arith), λ h. absurd (h (f.0 refl)))
none_last false f = (λ e h. false≢true (f.1 h), λ h. refl)

module _ (fits : Bool) (ss : List Share) (days : ℕ) {F D N : Type 0} (f : fits ≡ true ↔ F)
    (d : days_fit days ≡ true ↔ D) (n : none_computed ss ≡ true ↔ N) where
  load_refused : (load_of fits ss days).refused ≡ load_refusal fits ss days
  unfolding load_of answer refused_load
  load_refused = go (eqb (load_refusal fits ss days) 0) refl
    where
      go : (t : Bool) → eqb (load_refusal fits ss days) 0 ≡ t
          → (cond t (answer (tally ss) days) (refused_load (load_refusal fits ss days))).refused
          ≡ load_refusal fits ss days
      go true e = sym (eqb-true _ 0 e)
      go false e = refl

  pub load_numbers_rule : LoadNumbers F D N (load_of fits ss days).refused
  unfolding load_refusal
  load_numbers_rule =
      rw load_refused
      (record {
        nine =
            refused_first_lem 9 fits _ f (not_given 11 9 (days_fit days) _ (λ e. omega arith)
            (not_given 10 9 (not (none_computed ss)) 0 (λ e. omega arith) (λ e. omega arith)));
        eleven =
            refused_later 9 11 fits _ f (λ e. omega arith)
            (refused_first_lem 11 (days_fit days) _ d
            (not_given 10 11 (not (none_computed ss)) 0 (λ e. omega arith) (λ e. omega arith)));
        ten =
            refused_later 9 10 fits _ f (λ e. omega arith)
            (refused_later 11 10 (days_fit days) _ d (λ e. omega arith) (ten_last (none_computed ss) n));
        answered =
            refused_later 9 0 fits _ f (λ e. omega arith)
            (refused_later 11 0 (days_fit days) _ d (λ e. omega arith) (none_last (none_computed ss) n));
      })

  pub verdict_numbers_rule : (limit : ℕ) {L : Type 0} → limit_fits limit ≡ true ↔ L
      → VerdictNumbers F D L N (refusal_number (judged_of fits ss days limit))
  unfolding verdict_refusal judged_of
  verdict_numbers_rule limit l =
      rw number-of
      (record {
        nine =
            refused_first_lem 9 fits _ f (not_given 11 9 (days_fit days) _ (λ e. omega arith)
            (not_given 15 9 (limit_fits limit) _ (λ e. omega arith)
            (not_given 10 9 (not (none_computed ss)) 0 (λ e. omega arith) (λ e. omega arith))));
        eleven =
            refused_later 9 11 fits _ f (λ e. omega arith)
            (refused_first_lem 11 (days_fit days) _ d
            (not_given 15 11 (limit_fits limit) _ (λ e. omega arith)
            (not_given 10 11 (not (none_computed ss)) 0 (λ e. omega arith) (λ e. omega arith))));
        fifteen =
            refused_later 9 15 fits _ f (λ e. omega arith)
            (refused_later 11 15 (days_fit days) _ d (λ e. omega arith)
            (refused_first_lem 15 (limit_fits limit) _ l
            (not_given 10 15 (not (none_computed ss)) 0 (λ e. omega arith) (λ e. omega arith))));
        ten =
            refused_later 9 10 fits _ f (λ e. omega arith)
            (refused_later 11 10 (days_fit days) _ d (λ e. omega arith)
            (refused_later 15 10 (limit_fits limit) _ l (λ e. omega arith) (ten_last (none_computed ss) n)));
        answered =
            refused_later 9 0 fits _ f (λ e. omega arith)
            (refused_later 11 0 (days_fit days) _ d (λ e. omega arith)
            (refused_later 15 0 (limit_fits limit) _ l (λ e. omega arith) (none_last (none_computed ss) n)));
      })
