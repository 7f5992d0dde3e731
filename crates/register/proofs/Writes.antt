-- Laws of a row to be written: its values have a text each, and its line grows column by column. Assumes nothing.
use Rattle.std.specs.Prelude.{ℕ, zero, suc, ◌+◌, ◌-◌, ◌<◌, ◌≤◌, true, cond, ◌&&◌}
use mathlib.Core.{Path.◌≡◌, Path.refl, Path.sym, Path.ap, Path.◌∙◌, List.List, List.[], List.◌∷◌, List.◌++◌}
use native.Mathlib.Omega.{arith}
use borrow.Author.Tests.{leb-true, ltb-true, eqb-true, eq-eqb, ne_eqb}
use lib.{ListN.length, ListN.get_or, Dec.leb, Dec.ltb, Dec.eqb}
use Rattle.refusal.specs.Range.{all_within}
use Rattle.refusal.proofs.{Laws.and_left, Laws.and_right, Laws.refuse_none, Ranges.within_at}
use Rattle.movement.specs.{Limits.max_identity, Rules.fields_fit, Rules.identity_fits, Rules.levels_fit}
use Rattle.movement.specs.Aircraft.{mass_fits, aircraft_numbered}
use Rattle.text.specs.{Field.joined_by, Index.listing, Number.show_whole}
use Rattle.text.proofs.{Digits.either, Fields.join_snoc, Indices.listing_more, Indices.listing_cons}
use Rattle.register.specs.{Cell.shown_cell, InnerCell.top_of, Row.points_fit, Row.fault_of}
use Rattle.std.specs.Prelude.{Err}
use Rattle.refusal.specs.declared.Refusal.{Refusal}
use Rattle.refusal.specs.Refusal.{number_of}
use Rattle.refusal.proofs.Laws.{numbered}
use Rattle.register.specs.Write.{columns, zero_where_blank, row_levels_fit, write_fault, write_refusal, RowWritten}
use Rattle.register.specs.InnerCell.{comma_at, Writable}
use Rattle.register.specs.declared.row.Fields.{Fields}

-- one field more at the end of a line
joined_one : (f : ℕ → List ℕ)
    → joined_by 44 (listing f (0 + 1)) ≡ joined_by 44 (listing f 0) ++ (comma_at 0 ++ f 0)
unfolding joined_by listing
joined_one f = refl

comma_after : (k : ℕ) → comma_at (suc k) ≡ 44 ∷ []
comma_after k = ap (λ b. cond b [] (44 ∷ [])) (ne_eqb (suc k) 0 (λ e. omega arith))

pub joined-more : (f : ℕ → List ℕ) (k : ℕ)
    → joined_by 44 (listing f (k + 1)) ≡ joined_by 44 (listing f k) ++ (comma_at k ++ f k)
joined-more f zero = joined_one f
joined-more f (suc k) =
    let ls = listing (λ i. f (suc i)) k in
    ap (joined_by 44) (listing_more f (suc k) ∙ ap (λ l. l ++ (f (suc k) ∷ [])) (listing_cons f k))
    ∙ join_snoc 44 (f 0) ls (f (suc k))
    ∙ ap (λ l. joined_by 44 l ++ (44 ∷ f (suc k))) (sym (listing_cons f k))
    ∙ ap (λ t. joined_by 44 (listing f (suc k)) ++ (t ++ f (suc k))) (sym (comma_after k))

-- the columns past the fifth are the levels
pub column_level : (f : Fields) (levels : List ℕ) (k : ℕ) → 5 ≤ k
    → get_or (columns f levels) k 0 ≡ get_or levels (k - 5) 0
column_level f levels zero h = absurd (omega arith)
column_level f levels (suc zero) h = absurd (omega arith)
column_level f levels (suc (suc zero)) h = absurd (omega arith)
column_level f levels (suc (suc (suc zero))) h = absurd (omega arith)
column_level f levels (suc (suc (suc (suc zero)))) h = absurd (omega arith)
column_level f levels (suc (suc (suc (suc (suc i))))) h =
    let e : suc (suc (suc (suc (suc i)))) - 5 ≡ i = omega arith in rw e

-- identity and mass are whole numbers
pub whole_column : (k v : ℕ) → k < 5 → (k ≡ 1 → ⊥) → (k ≡ 3 → ⊥) → (k ≡ 4 → ⊥)
    → (shown_cell k v ≡ show_whole v) × (top_of k ≡ 10000000)
unfolding shown_cell top_of
whole_column zero v h a b c = (refl, refl)
whole_column (suc zero) v h a b c = absurd (a refl)
whole_column (suc (suc zero)) v h a b c = (refl, refl)
whole_column (suc (suc (suc zero))) v h a b c = absurd (b refl)
whole_column (suc (suc (suc (suc zero)))) v h a b c = absurd (c refl)
whole_column (suc (suc (suc (suc (suc k))))) v h a b c = absurd (omega arith)

-- what a row without a fault is
pub record Fine (n : ℕ) (f : Fields) (levels : List ℕ) : Type 0 where
  pub points_least : 1 ≤ n
  pub points_most : n ≤ 8
  pub mark_most : f.computed ≤ 1
  pub fields : fields_fit f.ty f.kind f.time f.mass ≡ true
  pub identity : identity_fits f.identity ≡ true
  pub size : length levels ≡ n
  pub within : all_within 12000 levels ≡ true
  pub zeros : f.computed ≡ 0 → all_within 0 levels ≡ true

blank_zeros : (mark : ℕ) (levels : List ℕ) → zero_where_blank mark levels ≡ true → mark ≡ 0
    → all_within 0 levels ≡ true
blank_zeros mark levels e z = rw (eq-eqb mark 0 z) at e

pub fault_fine : (n : ℕ) (f : Fields) (levels : List ℕ) → write_fault n f levels ≡ 0 → Fine n f levels
unfolding write_fault fault_of row_levels_fit levels_fit
fault_fine n f levels e =
    let nine = refuse_none 9 (points_fit n && leb f.computed 1) _ (omega arith) e in
    let one = refuse_none 1 (fields_fit f.ty f.kind f.time f.mass) _ (omega arith) nine.1 in
    let three = refuse_none 3 (identity_fits f.identity) _ (omega arith) one.1 in
    let size = eqb (length levels) n in
    let most = all_within 12000 levels in
    let zero = zero_where_blank f.computed levels in
    let seven = (refuse_none 7 (size && most && zero) 0 (omega arith) three.1).0 in
    let points = and_left (points_fit n) (leb f.computed 1) nine.0 in
    let both = and_left (size && most) zero seven in
    record {
      points_least = leb-true 1 n (and_left (leb 1 n) (leb n 8) points);
      points_most = leb-true n 8 (and_right (leb 1 n) (leb n 8) points);
      mark_most = leb-true f.computed 1 (and_right (points_fit n) (leb f.computed 1) nine.0);
      fields = one.0;
      identity = three.0;
      size = eqb-true (length levels) n (and_left size most both);
      within = and_right size most both;
      zeros = blank_zeros f.computed levels (and_right (size && most) zero seven);
    }

-- each of its values has a text
below : (f : Fields) (levels : List ℕ) → f.identity ≤ max_identity → f.ty < 3 → f.mass ≤ 1000000
    → f.kind < 2 → f.time < 86400 → all_within 12000 levels ≡ true → (k : ℕ) → k < 5 + length levels
    → get_or (columns f levels) k 0 < top_of k
unfolding top_of
below f levels i t m k s w zero h = omega arith
below f levels i t m k s w (suc zero) h = t
below f levels i t m k s w (suc (suc zero)) h = omega arith
below f levels i t m k s w (suc (suc (suc zero))) h = k
below f levels i t m k s w (suc (suc (suc (suc zero)))) h = s
below f levels i t m k s w (suc (suc (suc (suc (suc j))))) h = omega (arith, within_at 12000 levels j w)

pub fine_writable : {n : ℕ} {f : Fields} {levels : List ℕ} → Fine n f levels → Writable f levels
unfolding fields_fit identity_fits
fine_writable {n} {f} {levels} fine =
    let a = ltb f.ty 3 in
    let b = ltb f.kind 2 in
    let c = ltb f.time 86400 in
    let d = leb f.mass 1000000 in
    let four = and_left (a && b && (c && d)) (mass_fits (aircraft_numbered f.ty) f.mass) fine.fields in
    let front = and_left (a && b) (c && d) four in
    let back = and_right (a && b) (c && d) four in
    let identity = leb-true f.identity max_identity
    (and_right (leb 1 f.identity) (leb f.identity max_identity) fine.identity) in
    record {
      few = omega (arith, fine.size, fine.points_most);
      below =
          below f levels identity (ltb-true f.ty 3 (and_left a b front))
          (leb-true f.mass 1000000 (and_right c d back)) (ltb-true f.kind 2 (and_right a b front))
          (ltb-true f.time 86400 (and_left c d back)) fine.within;
    }

-- the comma before a column is at most one byte
pub comma_most : (k : ℕ) → length (comma_at k) ≤ 1
comma_most k = either (eqb k 0) (λ yes. rw yes (omega arith)) (λ no. rw no (omega arith))

-- a row that is refused leaves the buffer that was lent
pub row_unwritten : {n : ℕ} {f : Fields} {levels old : List ℕ} (why : Refusal)
    → number_of why ≡ write_refusal n f levels (length old) → RowWritten n f levels old (Err why) old
row_unwritten {n} {f} {levels} {old} why e =
    let bad = ne_eqb (number_of why) 0 (λ z. omega (arith, numbered why)) in
    record { number = e; values = rw (← e, bad); bytes = rw (← e, bad) }
