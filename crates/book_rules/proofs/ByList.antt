-- One call is refused as the list of movements says. Assumes nothing.
use mathlib.Core.Path.{◌≡◌, refl, sym, ap, ◌∙◌}
use mathlib.Core.{Bool.Bool, Bool.true, Bool.false, Bool.not, Bool.◌&&◌, Bool.◌||◌, List.List, List.[], List.◌∷◌}
use Prim.Native.Nat.{ℕ, suc, ◌+◌, ◌*◌, ◌/◌, ◌≤◌, ◌<◌}
use native.Mathlib.{Nat.le_of_eq, Nat.mul-div_cancel_left, Omega.arith}
use lib.{ListN.length, ListN.length-replicate, ListN.get_or, Dec.eqb, Dec.ltb, Dec.leb-suc-suc}
use borrow.Author.Tests.{lt-ltb, le-ltb, eq-eqb, ne_eqb, eqb-true, eqb-false}
use Rattle.refusal.specs.Refuse.{refuse}
use Rattle.movement.specs.Rules.{movement_refusal, identity_fits, levels_fit, counts_fit, zero_elsewhere}
use Rattle.book_rules.specs.Columns.{first_at, index_of, stands, cells_at, sound}
use Rattle.book_rules.specs.Calls.{Call, refused_or, enter_refusal, supply_refusal, take_back_refusal}
use Rattle.book_rules.specs.Calls.{withdraw_refusal, sound_refusal, refusal}
use Rattle.book_rules.specs.Calls.Call.{enter, supply, take_back, withdraw}
use Rattle.book_rules.specs.History.{Held, Movement, Made}
use Rattle.book_rules.specs.History.{standing, has_levels, computed, sizes_fit}
use Rattle.book_rules.specs.History.{standing_refusal, list_refusal, mark_of, column, mark_cell}
use Rattle.book_rules.specs.History.{count_cells, level_cells, rows_of}
use Rattle.book_rules.specs.History.Held.{none, holds}
use Rattle.book_rules.proofs.{Shapes.sound_fits, Accepted.identity_in, Blocks.Found, Blocks.length_column}
use Rattle.book_rules.proofs.Blocks.{counts_at_lem, Found.this, Found.later}
use Rattle.book_rules.proofs.Standing.{AllGood, Rising, sized_counts, sized_levels, book_sound}
use Rattle.book_rules.proofs.Steps.{ids, none_zeros, first-cons, first_unused, length_ids, stood_at}

-- One call is refused as the list of movements says

stands_is : (x u : ℕ) (ms : List Movement) → 1 ≤ x → stands x (ids u ms) ≡ standing x ms
unfolding stands standing index_of column
stands_is x u [] l =
    le-ltb _ _ (le_of_eq (length-replicate {A = ℕ} (u * 1) 0
    ∙ sym (none_zeros (λ y. eqb y x) (u * 1) (ne_eqb 0 x (omega arith)))))
stands_is x u (a ∷ ms) l = by (eqb a.identity x) refl (stands_is x u ms l)
  where
    at : ℕ → Bool
    at y = eqb y x

    by : (t : Bool) → eqb a.identity x ≡ t → ltb (first_at at (ids u ms)) (length (ids u ms)) ≡ standing x ms
        → ltb (first_at at (ids u (a ∷ ms))) (suc (length (ids u ms))) ≡ (t || standing x ms)
    by true e ih = rw (first-cons at u a ms e) (lt-ltb 0 (suc (length (ids u ms))) (omega arith))
    by false e ih = rw (first-cons at u a ms e) (leb-suc-suc (suc (first_at at (ids u ms))) (length (ids u ms)) ∙ ih)

unused_is : (p u : ℕ) (ms : List Movement) → AllGood p ms
    → stands 0 (ids u ms) ≡ ltb (length ms) (u + length ms)
unfolding stands
unused_is p u ms g = rw (first_unused p u ms g, length_ids u ms) refl

mark_held : (h : Held) → eqb (mark_of h) 1 ≡ has_levels h
unfolding mark_of has_levels
mark_held none = refl
mark_held (holds ls) = refl

mark_is : {x k : ℕ} {ms : List Movement} (u : ℕ) → Found x ms k
    → eqb (get_or (column mark_cell 1 u ms) k 0) 1 ≡ computed x ms
unfolding column computed
mark_is {x} u (this {a} {ms} e) = rw (eq-eqb a.identity x e) (mark_held a.held)
mark_is {x} u (later {a} {ms} e r) = rw (ne_eqb a.identity x e) (mark_is u r)

-- two refusals are the same where their tests are, and what follows a test may rely on it
refuse_same : (n : ℕ) (t : Bool) {s : Bool} {a b : ℕ} → t ≡ s → (t ≡ true → a ≡ b)
    → refuse n t a ≡ refuse n s b
refuse_same n t {s} {a} {b} e h = under t h ∙ ap (λ (k : Bool). refuse n k b) e
  where
    under : (r : Bool) → (r ≡ true → a ≡ b) → refuse n r a ≡ refuse n r b
    under true f = f refl
    under false f = refl

-- a book of these movements is sound for its own number of points only, and if its size is in range

pub points_same : (p q u : ℕ) (ms : List Movement) → AllGood p ms → sound q (rows_of p u ms) ≡ true → q ≡ p
unfolding rows_of
points_same p q u ms g s =
    let f = sound_fits q (rows_of p u ms) s in
    let n = u + length ms in
    let e : n * q ≡ n * p = ap (λ k. k * q) (sym (length_ids u ms)) ∙ sym f.levels=
    ∙ length_column (level_cells p) p u ms (sized_levels p ms g) in
    let some : 0 < n = omega (arith, f.rows≥, length_ids u ms) in
    sym (mul-div_cancel_left q some) ∙ ap (λ k. k / n) e ∙ mul-div_cancel_left p some

sound_points : (p q u : ℕ) (ms : List Movement) → AllGood p ms → Rising ms
    → sound q (rows_of p u ms) ≡ (eqb q p && sizes_fit p (u + length ms))
sound_points p q u ms g r = by (eqb q p) refl
  where
    never : (t : Bool) → sound q (rows_of p u ms) ≡ t → (q ≡ p → ⊥) → t ≡ false
    never false e n = refl
    never true e n = absurd (n (points_same p q u ms g e))

    by : (t : Bool) → eqb q p ≡ t → sound q (rows_of p u ms) ≡ (t && sizes_fit p (u + length ms))
    by true e = ap (λ k. sound k (rows_of p u ms)) (eqb-true q p e) ∙ book_sound p u ms g r
    by false e = never (sound q (rows_of p u ms)) refl (eqb-false q p e)

sound_by_list : (p u : ℕ) (ms : List Movement) (c : Call) → AllGood p ms
    → sound_refusal p (rows_of p u ms) c ≡ standing_refusal p (u + length ms) ms c
unfolding sound_refusal enter_refusal supply_refusal take_back_refusal withdraw_refusal standing_refusal rows_of
sound_by_list p u ms (enter x t k s m cs) g =
    refuse_same 9 (counts_fit p cs) refl λ _.
    ap (refused_or (movement_refusal t k s m))
    (refuse_same 3 (identity_fits x) refl λ e.
    refuse_same 4 (not (stands x (ids u ms))) (ap not (stands_is x u ms (identity_in x e).0)) λ _.
    refuse_same 6 (stands 0 (ids u ms)) (unused_is p u ms g) λ _. refl)
sound_by_list p u ms (supply x ls) g =
    refuse_same 3 (identity_fits x) refl λ e.
    refuse_same 7 (levels_fit p ls) refl λ _.
    refuse_same 5 (stands x (ids u ms)) (stands_is x u ms (identity_in x e).0) λ h.
    refuse_same 19 (zero_elsewhere (cells_at p (index_of x (ids u ms)) (column count_cells p u ms)) ls)
    (ap (λ (cs : List ℕ). zero_elsewhere cs ls) (counts_at_lem p u (sized_counts p ms g) (stood_at p u x ms e h)))
    λ _. refl
sound_by_list p u ms (take_back x) g =
    refuse_same 3 (identity_fits x) refl λ e.
    refuse_same 5 (stands x (ids u ms)) (stands_is x u ms (identity_in x e).0) λ h.
    refuse_same 8 (eqb (get_or (column mark_cell 1 u ms) (index_of x (ids u ms)) 0) 1)
    (mark_is u (stood_at p u x ms e h)) λ _. refl
sound_by_list p u ms (withdraw x) g =
    refuse_same 3 (identity_fits x) refl λ e.
    refuse_same 5 (stands x (ids u ms)) (stands_is x u ms (identity_in x e).0) λ _. refl

-- a call, for any number of points, is refused as the list of movements says
pub refusal_by_list : (p u : ℕ) (ms : List Movement) (c : Made) → AllGood p ms → Rising ms
    → refusal c.points (rows_of p u ms) c.call ≡ list_refusal p (u + length ms) ms c
unfolding refusal list_refusal
refusal_by_list p u ms c g r =
    refuse_same 9 (sound c.points (rows_of p u ms)) (sound_points p c.points u ms g r) λ s.
    ap (λ k. sound_refusal k (rows_of p u ms) c.call) (points_same p c.points u ms g s)
    ∙ sound_by_list p u ms c.call g
