-- A row read and a row written are refused in the rules' order. Assumes nothing.
use mathlib.Core.{Path.◌≡◌, Path.refl, Path.◌∙◌, Bool.Bool, Bool.true, Bool.false, Bool.◌&&◌, Logic.◌↔◌}
use mathlib.Core.List.{List}
use Prim.Native.Nat.{ℕ, ◌≤◌, ◌<◌}
use native.Mathlib.Omega.{arith}
use lib.{Dec.eqb, Dec.leb, ListN.length, ListN.get_or}
use borrow.Author.Tests.{eq-eqb, eqb-true, le-leb, leb-true, leb-false}
use Rattle.refusal.specs.{Range.all_within, Refuse.refuse, Refuse.first}
use Rattle.refusal.proofs.{Laws.and_left, Laws.and_right, Ranges.within_at}
use Rattle.movement.specs.{Limits.max_points, Limits.max_level, Rules.fields_fit, Rules.identity_fits, Rules.levels_fit}
use Rattle.movement.proofs.Ranges.{ranges_hold}
use Rattle.text.proofs.Digits.{either}
use Rattle.book_rules.proofs.Order.{Decides, decides, given_by}
use Rattle.register.specs.declared.row.Fields.{Fields}
use Rattle.register.specs.Row.{points_fit, layout_of, fault_of, row_refusal}
use Rattle.register.specs.Write.{show_row, zero_where_blank, row_levels_fit, write_fault, write_refusal}
use Rattle.report_rules.specs.RowOrders.{Ranged, Identified, InReadOrder, LevelsWritten, InWriteOrder}
use Rattle.report_rules.proofs.LimitsExact.{within_all}

-- a test that passes exactly if this holds
passes_for : {Holds : Type 0} (ok : Bool) → (ok ≡ true ↔ Holds) → Decides ok (Holds → ⊥)
passes_for true e = decides true (λ t n. n (e.0 refl)) (λ t. let z : ◌≡◌ {A = ℕ} 0 1 = cc in
    absurd (omega arith))
passes_for false e =
    decides false (λ t n. let z : ◌≡◌ {A = ℕ} 0 1 = cc in absurd (omega arith))
    (λ t h. let f = e.1 h in let z : ◌≡◌ {A = ℕ} 0 1 = cc in absurd (omega arith))

-- a fault, or what follows, is one order
first-is : (a b c : Bool) (rest : ℕ)
    → first (refuse 1 a (refuse 3 b (refuse 7 c 0))) rest ≡ refuse 1 a (refuse 3 b (refuse 7 c rest))
first-is true true true rest = refl
first-is true true false rest = refl
first-is true false c rest = refl
first-is false b c rest = refl

fault_is : (f : Fields) (fit : Bool) (rest : ℕ)
    → first (fault_of f fit) rest ≡ refuse 1 (fields_fit f.ty f.kind f.time f.mass)
    (refuse 3 (identity_fits f.identity) (refuse 7 fit rest))
unfolding fault_of
fault_is f fit rest = first-is (fields_fit f.ty f.kind f.time f.mass) (identity_fits f.identity) fit rest

fields_for : (f : Fields) → Decides (fields_fit f.ty f.kind f.time f.mass) (Ranged f → ⊥)
fields_for f =
    passes_for (fields_fit f.ty f.kind f.time f.mass)
    (ranges_hold.fields f.ty f.kind f.time f.mass)

identity_for : (f : Fields) → Decides (identity_fits f.identity) (Identified f → ⊥)
identity_for f = passes_for (identity_fits f.identity) (ranges_hold.identity f.identity)

-- room for n
room_for : (n room : ℕ) → Decides (leb n room) (room < n)
room_for n room = decides (leb n room) (λ t h. absurd (omega (arith, leb-true n room t))) (λ t. leb-false n room t)

within_for : (top : ℕ) (xs : List ℕ) → Decides (all_within top xs) (((i : ℕ) → get_or xs i 0 ≤ top) → ⊥)
within_for top xs = passes_for (all_within top xs) (λ e i. within_at top xs i e, within_all top xs)

zero_for : (r : ℕ) → Decides (eqb r 0) (r ≡ 0 → ⊥)
zero_for r = passes_for (eqb r 0) (λ e. eqb-true r 0 e, λ e. eq-eqb r 0 e)

pub read_order : (p : ℕ) (line : List ℕ) (room : ℕ)
    → InReadOrder p line room (row_refusal p (layout_of p line) room)
unfolding row_refusal
read_order p line room =
    let l = layout_of p line in
    let f = l.fields in
    let fit = all_within max_level l.levels in
    given_by (eqb l.refusal 0) refl (zero_for l.refusal) λ _ e.
    given_by (fields_fit f.ty f.kind f.time f.mass) (e ∙ fault_is f fit (refuse 14 (leb p room) 0))
    (fields_for f) λ _ e₁.
    given_by (identity_fits f.identity) e₁ (identity_for f) λ _ e₃.
    given_by fit e₃ (within_for 12000 l.levels) λ _ e₇.
    given_by (leb p room) e₇ (room_for p room) λ _ e₁₄. e₁₄

-- the levels of a row to be written
written_for : (p : ℕ) (f : Fields) (levels : List ℕ)
    → Decides (row_levels_fit p f.computed levels) (LevelsWritten p f levels → ⊥)
unfolding row_levels_fit
written_for p f levels = passes_for (levels_fit p levels && zero_where_blank f.computed levels) (there, back)
  where
    zeros : zero_where_blank f.computed levels ≡ true → f.computed ≡ 0 → (i : ℕ) → get_or levels i 0 ≡ 0
    zeros t e i =
        let w : all_within 0 levels ≡ true = rw (eq-eqb f.computed 0 e) at t in
        omega (arith, within_at 0 levels i w)

    blank : (f.computed ≡ 0 → (i : ℕ) → get_or levels i 0 ≡ 0) → zero_where_blank f.computed levels ≡ true
    blank z =
        either (eqb f.computed 0)
        (λ yes. rw yes (within_all 0 levels (λ i. omega (arith, z (eqb-true f.computed 0 yes) i))))
        (λ no. rw no refl)

    there : (levels_fit p levels && zero_where_blank f.computed levels) ≡ true → LevelsWritten p f levels
    there t =
        record {
          range = (ranges_hold.levels p levels).0 (and_left (levels_fit p levels)
              (zero_where_blank f.computed levels) t);
          zeros = zeros (and_right (levels_fit p levels) (zero_where_blank f.computed levels) t);
        }

    back : LevelsWritten p f levels → (levels_fit p levels && zero_where_blank f.computed levels) ≡ true
    back w = rw ((ranges_hold.levels p levels).1 w.range, blank w.zeros) refl

shape_for : (p : ℕ) (f : Fields)
    → Decides (points_fit p && leb f.computed 1) ((1 ≤ p) × (p ≤ 8) × (f.computed ≤ 1) → ⊥)
shape_for p f = passes_for (points_fit p && leb f.computed 1) (there, back)
  where
    there : (points_fit p && leb f.computed 1) ≡ true → (1 ≤ p) × (p ≤ 8) × (f.computed ≤ 1)
    there t =
        let points = and_left (points_fit p) (leb f.computed 1) t in (
          leb-true 1 p (and_left (leb 1 p) (leb p max_points) points),
          leb-true p 8 (and_right (leb 1 p) (leb p max_points) points),
          leb-true f.computed 1 (and_right (points_fit p) (leb f.computed 1) t),
        )

    back : (1 ≤ p) × (p ≤ 8) × (f.computed ≤ 1) → (points_fit p && leb f.computed 1) ≡ true
    back h = rw (le-leb 1 p h.0, le-leb p 8 h.1, le-leb f.computed 1 h.2) refl

nine_first : (ok : Bool) (fault rest : ℕ) → first (refuse 9 ok fault) rest ≡ refuse 9 ok (first fault rest)
nine_first true fault rest = refl
nine_first false fault rest = refl

pub write_order : (p : ℕ) (f : Fields) (levels : List ℕ) (room : ℕ)
    → InWriteOrder p f levels room (write_refusal p f levels room)
unfolding write_refusal write_fault
write_order p f levels room =
    let fit = row_levels_fit p f.computed levels in
    let last = refuse 14 (leb (length (show_row f levels)) room) 0 in
    given_by (points_fit p && leb f.computed 1)
    (nine_first (points_fit p && leb f.computed 1) (fault_of f fit) last) (shape_for p f) λ _ e.
    given_by (fields_fit f.ty f.kind f.time f.mass) (e ∙ fault_is f fit last) (fields_for f) λ _ e₁.
    given_by (identity_fits f.identity) e₁ (identity_for f) λ _ e₃.
    given_by fit e₃ (written_for p f levels) λ _ e₇.
    given_by (leb (length (show_row f levels)) room) e₇ (room_for (length (show_row f levels)) room) λ _
    e₁₄. e₁₄
