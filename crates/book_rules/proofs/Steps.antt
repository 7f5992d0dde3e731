-- One accepted call: the book's change is the change of the list of movements, and the movements still stand. Assumes
-- nothing.
use mathlib.Core.Path.{◌≡◌, refl, sym, ap, subst, ◌∙◌}
use mathlib.Core.Bool.{Bool, true, false, cond, not, ◌&&◌, ◌||◌}
use mathlib.Core.List.{List, [], ◌∷◌}
use Prim.Native.Nat.{ℕ, zero, suc, ◌+◌, ◌*◌, ◌≤◌, ◌<◌}
use native.Mathlib.{Nat.mul-one, Omega.arith}
use lib.{ListN.length, ListN.replicate, ListN.length-replicate, Dec.eqb, Dec.leb}
use borrow.Author.Tests.{ne_eqb, leb-true, leb-false, ltb-true, ltb-false, eqb-true, eqb-false, not-true}
use Rattle.refusal.specs.Range.{all_within}
use Rattle.refusal.proofs.Laws.{and_right}
use Rattle.movement.specs.Limits.{group_count, max_count, max_level}
use Rattle.movement.specs.{Aircraft.aircraft_numbered, Kind.kind_numbered, Period.period_of, Group.group_of}
use Rattle.movement.specs.Rules.{identity_fits, levels_fit, counts_fit, zero_elsewhere}
use Rattle.movement.proofs.{Numbers.group_below, Elsewhere.elsewhere_zeros}
use Rattle.book_rules.specs.Columns.{book_of, first_at, index_of, place_of, stands, top_level}
use Rattle.book_rules.specs.Calls.{Call, enter_refusal, withdraw_refusal, sound_refusal, changed, row_in, row_out}
use Rattle.book_rules.specs.Calls.{row_marked}
use Rattle.book_rules.specs.Calls.Call.{enter, supply, take_back, withdraw}
use Rattle.book_rules.specs.History.{Held, Movement, movement, added, holding, without, step, counts_for}
use Rattle.book_rules.specs.History.{mark_of, levels_of, column, identity_cell, group_cell, mark_cell, count_cells}
use Rattle.book_rules.specs.History.{level_cells, rows_of}
use Rattle.book_rules.specs.History.Held.{none, holds}
use Rattle.book_rules.proofs.Accepted.{entered, withdrawn, taken_back, supplied, identity_in, fit_length}
use Rattle.book_rules.proofs.Blocks.{Place, Found, length_column, column_in_rule, column_out, column_held}
use Rattle.book_rules.proofs.Blocks.{column_kept, counts_at_lem}
use Rattle.book_rules.proofs.Blocks.{Place.last, Place.here, Place.there, Found.this, Found.later}
use Rattle.book_rules.proofs.Standing.{PerPoint, Filled, Good, AllGood, Rising, New, good_added, length-added}
use Rattle.book_rules.proofs.Standing.{rising_added, good_without, length_without, rising_without, Silent}
use Rattle.book_rules.proofs.Standing.{good_holding, length-holding, rising_holding, sized_one, sized_counts}
use Rattle.book_rules.proofs.Standing.{sized_levels, zeros_within}

-- From a place in the column of identities to one in the list

abbrev pub ids : ℕ → List Movement → List ℕ
ids u ms = column identity_cell 1 u ms

first_zeros : (f : ℕ → Bool) (n : ℕ) → f 0 ≡ true → first_at f (replicate n 0) ≡ 0
unfolding first_at
first_zeros f zero e = refl
first_zeros f (suc n) e = rw e refl

pub none_zeros : (f : ℕ → Bool) (n : ℕ) → f 0 ≡ false → first_at f (replicate n 0) ≡ n
unfolding first_at
none_zeros f zero e = refl
none_zeros f (suc n) e = rw e (ap suc (none_zeros f n e))

-- a test at the first identity
pub first-cons : (f : ℕ → Bool) (u : ℕ) (a : Movement) (ms : List Movement) {t : Bool} → f a.identity ≡ t
    → first_at f (ids u (a ∷ ms)) ≡ cond t 0 (suc (first_at f (ids u ms)))
unfolding column first_at
first-cons f u a ms e = rw e refl

pub place_at : (p x u : ℕ) (ms : List Movement) → AllGood p ms → Place x ms (place_of x (ids u ms))
unfolding place_of column
place_at p x u [] s = subst (Place x []) (sym (first_zeros (λ y. eqb y 0 || leb x y) (u * 1) refl)) last
place_at p x u (a ∷ ms) s = by (leb x a.identity) refl (place_at p x u ms s.1)
  where
    at : ℕ → Bool
    at y = eqb y 0 || leb x y

    used : (t : Bool) → leb x a.identity ≡ t → at a.identity ≡ t
    used t e = rw (ne_eqb a.identity 0 (omega (arith, s.0.low))) e

    by : (t : Bool) → leb x a.identity ≡ t → Place x ms (first_at at (ids u ms))
        → Place x (a ∷ ms) (first_at at (ids u (a ∷ ms)))
    by true e r =
        subst (Place x (a ∷ ms)) (sym (first-cons at u a ms (used true e))) (here (leb-true x a.identity e))
    by false e r =
        subst (Place x (a ∷ ms)) (sym (first-cons at u a ms (used false e))) (there (leb-false x a.identity e) r)

found_at : (x u : ℕ) (ms : List Movement) → 1 ≤ x → index_of x (ids u ms) < length (ids u ms)
    → Found x ms (index_of x (ids u ms))
unfolding index_of column
found_at x u [] l h =
    absurd (omega (
      arith,
      none_zeros (λ y. eqb y x) (u * 1) (ne_eqb 0 x (omega arith)),
      length-replicate {A = ℕ} (u * 1) 0,
    ))
found_at x u (a ∷ ms) l h = by (eqb a.identity x) refl (found_at x u ms l)
  where
    at : ℕ → Bool
    at y = eqb y x

    by : (t : Bool) → eqb a.identity x ≡ t
        → (first_at at (ids u ms) < length (ids u ms) → Found x ms (first_at at (ids u ms)))
        → Found x (a ∷ ms) (first_at at (ids u (a ∷ ms)))
    by true e r = subst (Found x (a ∷ ms)) (sym (first-cons at u a ms e)) (this (eqb-true a.identity x e))
    by false e r =
        subst (Found x (a ∷ ms)) (sym (first-cons at u a ms e))
        (later (eqb-false a.identity x e) (r (omega (arith, first-cons at u a ms e))))

new_at : (x u : ℕ) (ms : List Movement) → length (ids u ms) ≤ index_of x (ids u ms) → New x ms
unfolding index_of column
new_at x u [] h = tt
new_at x u (a ∷ ms) h = by (eqb a.identity x) refl (new_at x u ms)
  where
    at : ℕ → Bool
    at y = eqb y x

    by : (t : Bool) → eqb a.identity x ≡ t → (length (ids u ms) ≤ first_at at (ids u ms) → New x ms)
        → New x (a ∷ ms)
    by true e r = absurd (omega (arith, first-cons at u a ms e))
    by false e r = (eqb-false a.identity x e, r (omega (arith, first-cons at u a ms e)))

-- the first unused row comes after the movements
pub first_unused : (p u : ℕ) (ms : List Movement) → AllGood p ms → index_of 0 (ids u ms) ≡ length ms
unfolding index_of column
first_unused p u [] s = first_zeros (λ y. eqb y 0) (u * 1) refl
first_unused p u (a ∷ ms) s =
    first-cons (λ y. eqb y 0) u a ms (ne_eqb a.identity 0 (omega (arith, s.0.low)))
    ∙ ap suc (first_unused p u ms s.1)

pub length_ids : (u : ℕ) (ms : List Movement) → length (ids u ms) ≡ u + length ms
length_ids u ms = length_column identity_cell 1 u ms (sized_one (λ a. a.identity) ms) ∙ mul-one (u + length ms)

-- A row goes in or out, or holds other levels: the book's change is the list's

rows_in_lem : (p x g k u : ℕ) (cs : List ℕ) (ms : List Movement) → AllGood p ms → length cs ≡ p → Place x ms k
    → row_in p (rows_of p (suc u) ms) k x g cs ≡ rows_of p u (added (movement x g cs none) ms)
unfolding row_in rows_of levels_of mark_of
rows_in_lem p x g k u cs ms s w h =
    let m = movement x g cs none in
    let a = column_in_rule identity_cell 1 u m (sym (mul-one k)) refl (sized_one (λ a. a.identity) ms) h in
    let b = column_in_rule group_cell 1 u m (sym (mul-one k)) refl (sized_one (λ a. a.group) ms) h in
    let c = column_in_rule mark_cell 1 u m (sym (mul-one k)) refl (sized_one (λ a. mark_of a.held) ms) h in
    let d = column_in_rule count_cells p u m refl w (sized_counts p ms s) h in
    let e = column_in_rule (level_cells p) p u m refl (length-replicate {A = ℕ} p 0) (sized_levels p ms s) h in
    λ i. book_of (a i) (b i) (c i) (d i) (e i)

rows_out : (p x k u : ℕ) (ms : List Movement) → AllGood p ms → Found x ms k
    → row_out p (rows_of p u ms) k ≡ rows_of p (suc u) (without x ms)
unfolding row_out rows_of
rows_out p x k u ms s h =
    let a = column_out identity_cell 1 u (sym (mul-one k)) (sized_one (λ a. a.identity) ms) h in
    let b = column_out group_cell 1 u (sym (mul-one k)) (sized_one (λ a. a.group) ms) h in
    let c = column_out mark_cell 1 u (sym (mul-one k)) (sized_one (λ a. mark_of a.held) ms) h in
    let d = column_out count_cells p u refl (sized_counts p ms s) h in
    let e = column_out (level_cells p) p u refl (sized_levels p ms s) h in
    λ i. book_of (a i) (b i) (c i) (d i) (e i)

rows_held : (p x k u : ℕ) (h : Held) (ms : List Movement) → AllGood p ms → Filled p h → Found x ms k
    → row_marked p (rows_of p u ms) k (mark_of h) (levels_of p h) ≡ rows_of p u (holding x h ms)
unfolding row_marked rows_of
rows_held p x k u h ms s f r =
    let a = column_kept identity_cell 1 u h (λ a. refl) r in
    let b = column_kept group_cell 1 u h (λ a. refl) r in
    let c = column_held mark_cell 1 (mark_of h ∷ []) u h (sym (mul-one k)) (sized_one (λ a. mark_of a.held) ms)
    refl (λ a. refl) r in
    let d = column_kept count_cells p u h (λ a. refl) r in
    let e = column_held (level_cells p) p (levels_of p h) u h refl (sized_levels p ms s) f.wide (λ a. refl) r in
    λ i. book_of (a i) (b i) (c i) (d i) (e i)

-- An accepted call

-- after a call there are as many rows as before, and the movements still stand
pub record Stepped (p u : ℕ) (ms : List Movement) (c : Call) : Type 0 where
  pub unused : ℕ
  pub same : unused + length (step ms c) ≡ u + length ms
  pub rows : changed p (rows_of p u ms) c ≡ rows_of p unused (step ms c)
  pub good : AllGood p (step ms c)
  pub rising : Rising (step ms c)

filled_none : (p : ℕ) → Filled p none
unfolding levels_of mark_of top_level
filled_none p = record { wide = length-replicate {A = ℕ} p 0; within = zeros_within 0 p }

silent_none : (p : ℕ) (cs : List ℕ) → zero_elsewhere cs (levels_of p none) ≡ true
unfolding levels_of
silent_none p cs = elsewhere_zeros cs p

-- values that passed the test of their number and range
given_cells : (p top : ℕ) (vs : List ℕ) → (eqb (length vs) p && all_within top vs) ≡ true → PerPoint p top vs
given_cells p top vs e = record { wide = fit_length p top vs e; within = and_right (eqb (length vs) p) _ e }

filled_levels : (p : ℕ) (ls : List ℕ) → levels_fit p ls ≡ true → Filled p (holds ls)
unfolding levels_of mark_of top_level levels_fit
filled_levels p ls e = given_cells p max_level ls e

given_counts : (p : ℕ) (cs : List ℕ) → counts_fit p cs ≡ true → PerPoint p max_count cs
unfolding counts_fit
given_counts p cs e = given_cells p max_count cs e

group_bound : (t k s : ℕ) → group_of t k s < group_count
unfolding group_of
group_bound t k s = group_below (aircraft_numbered t) (kind_numbered k) (period_of s)

stands_below : (x u : ℕ) (ms : List Movement) → stands x (ids u ms) ≡ true
    → index_of x (ids u ms) < length (ids u ms)
unfolding stands
stands_below x u ms e = ltb-true (index_of x (ids u ms)) (length (ids u ms)) e

stands-not : (x u : ℕ) (ms : List Movement) → not (stands x (ids u ms)) ≡ true → New x ms
unfolding stands
stands-not x u ms e = new_at x u ms (ltb-false (index_of x (ids u ms)) (length (ids u ms)) (not-true _ e))

enter_step : (p u : ℕ) (ms : List Movement) (x t k s m : ℕ) (cs : List ℕ) → AllGood p ms → Rising ms
    → enter_refusal p (ids u ms) x t k s m cs ≡ 0
    → Stepped p u ms (enter x t k s m cs)
unfolding rows_of step changed
enter_step p zero ms x t k s m cs g r z =
    absurd (omega (
      arith,
      stands_below 0 zero ms (entered p (ids zero ms) x t k s m cs z).unused,
      first_unused p zero ms g,
      length_ids zero ms,
    ))
enter_step p (suc u) ms x t k s m cs g r z =
    let e = entered p (ids (suc u) ms) x t k s m cs z in
    let v = movement x (group_of t k s) cs none in
    let at = place_at p x (suc u) ms g in
    let i = identity_in x e.identity= in
    let c = given_counts p cs e.counts= in
    let l = length-added v at in
    let new : Good p v = record {
      low = i.0;
      high = i.1;
      group< = group_bound t k s;
      counted = c;
      filled = filled_none p;
      silent = silent_none p cs;
    } in
    record {
      unused = u;
      same = omega arith;
      rows = rows_in_lem p x (group_of t k s) (place_of x (ids (suc u) ms)) u cs ms g c.wide at;
      good = good_added v new g at;
      rising = rising_added v (stands-not x (suc u) ms e.new) r at;
    }

pub stood_at : (p u x : ℕ) (ms : List Movement) → identity_fits x ≡ true → stands x (ids u ms) ≡ true
    → Found x ms (index_of x (ids u ms))
stood_at p u x ms i e = found_at x u ms (identity_in x i).0 (stands_below x u ms e)

held_step : (p u x : ℕ) (h : Held) (ms : List Movement) (c : Call) → AllGood p ms → Rising ms → Filled p h
    → Silent p x h ms → Found x ms (index_of x (ids u ms))
    → step ms c ≡ holding x h ms
    → changed p (rows_of p u ms) c ≡ row_marked p (rows_of p u ms) (index_of x (ids u ms)) (mark_of h) (levels_of p h)
    → Stepped p u ms c
held_step p u x h ms c g r f z at l b =
    record {
      unused = u;
      same = ap (λ n. u + length n) l ∙ ap (λ n. u + n) (length-holding h at);
      rows = b ∙ rows_held p x (index_of x (ids u ms)) u h ms g f at ∙ ap (rows_of p u) (sym l);
      good = subst (AllGood p) (sym l) (good_holding h f z g at);
      rising = subst Rising (sym l) (rising_holding h r at);
    }

withdraw_step : (p u x : ℕ) (ms : List Movement) → AllGood p ms → Rising ms → withdraw_refusal (ids u ms) x ≡ 0
    → Stepped p u ms (withdraw x)
unfolding rows_of step changed
withdraw_step p u x ms g r z =
    let w = withdrawn (ids u ms) x z in
    let at = stood_at p u x ms w.identity= w.stands= in
    let l = length_without at in
    record {
      unused = suc u;
      same = omega arith;
      rows = rows_out p x (index_of x (ids u ms)) u ms g at;
      good = good_without p g at;
      rising = rising_without r at;
    }

pub stepped : (p u : ℕ) (ms : List Movement) (c : Call) → AllGood p ms → Rising ms
    → sound_refusal p (rows_of p u ms) c ≡ 0 → Stepped p u ms c
unfolding rows_of step changed mark_of levels_of sound_refusal
stepped p u ms (enter x t k s m cs) g r z = enter_step p u ms x t k s m cs g r z
stepped p u ms (supply x ls) g r z =
    let w = supplied p (ids u ms) (column count_cells p u ms) x ls z in
    let at = stood_at p u x ms w.0.identity= w.0.stands= in
    let silent = subst (λ (cs : List ℕ). zero_elsewhere cs ls ≡ true) (counts_at_lem p u (sized_counts p ms g) at)
    w.2 in
    held_step p u x (holds ls) ms (supply x ls) g r (filled_levels p ls w.1) silent at refl refl
stepped p u ms (take_back x) g r z =
    let w = taken_back (ids u ms) (column mark_cell 1 u ms) x z in
    let at = stood_at p u x ms w.identity= w.stands= in
    held_step p u x none ms (take_back x) g r (filled_none p) (silent_none p (counts_for x ms)) at refl refl
stepped p u ms (withdraw x) g r z = withdraw_step p u x ms g r z
