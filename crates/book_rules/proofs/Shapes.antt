-- What a book that passed the test of soundness says of its columns: their lengths, their order and their identities.
-- Assumes nothing.
use mathlib.Core.{Path.◌≡◌, Path.refl, Bool.Bool, Bool.true, Bool.false, Bool.cond, Bool.◌&&◌}
use mathlib.Core.List.{List, [], ◌∷◌}
use Prim.Native.Nat.{ℕ, ◌*◌, ◌≤◌, ◌<◌}
use native.Mathlib.Omega.{arith}
use lib.{ListN.length, ListN.take, ListN.drop, Dec.eqb, Dec.leb, Dec.ltb}
use borrow.Author.Tests.{leb-true, ltb-true, eqb-true, le-leb}
use Rattle.refusal.specs.Range.{all_within}
use Rattle.refusal.proofs.Laws.{and_left, and_right}
use Rattle.movement.specs.Limits.{max_rows, max_points, max_identity, group_count}
use Rattle.movement.specs.Rules.{zero_elsewhere}
use Rattle.book_rules.specs.Columns.{Book, shape_fits, shaped, rising, head_sound, top_count, top_level, cells_sound}
use Rattle.book_rules.specs.Columns.{row_sound, rows_sound, sound}

-- what a shape that fits says of the lengths
pub record Fitting (p rows groups marks counts levels : ℕ) : Type 0 where
  pub points : p ≤ max_points
  pub some : 1 ≤ p
  pub rows≤ : rows ≤ max_rows
  pub rows≥ : 1 ≤ rows
  pub groups= : groups ≡ rows
  pub marks= : marks ≡ rows
  pub counts= : counts ≡ rows * p
  pub levels= : levels ≡ rows * p

pub fitting : (p rows groups marks counts levels : ℕ) → shape_fits p rows groups marks counts levels ≡ true
    → Fitting p rows groups marks counts levels
unfolding shape_fits
fitting p rows groups marks counts levels e =
    let a = and_right (leb 1 p && leb p max_points) _ e in
    let q = and_left (leb 1 p && leb p max_points) _ e in
    let r = and_left (leb 1 rows && leb rows max_rows) _ a in
    let l = and_right (leb 1 rows && leb rows max_rows) _ a in
    let s = and_left (eqb groups rows && eqb marks rows) _ l in
    let c = and_right (eqb groups rows && eqb marks rows) _ l in
    record {
      points = leb-true _ _ (and_right (leb 1 p) _ q);
      some = leb-true _ _ (and_left (leb 1 p) _ q);
      rows≤ = leb-true _ _ (and_right (leb 1 rows) _ r);
      rows≥ = leb-true _ _ (and_left (leb 1 rows) _ r);
      groups= = eqb-true _ _ (and_left (eqb groups rows) _ s);
      marks= = eqb-true _ _ (and_right (eqb groups rows) _ s);
      counts= = eqb-true _ _ (and_left (eqb counts (rows * p)) _ c);
      levels= = eqb-true _ _ (and_right (eqb counts (rows * p)) _ c);
    }

-- a sound book's columns fit
pub sound_fits : (p : ℕ) (b : Book) → sound p b ≡ true
    → Fitting p (length b.identities) (length b.groups) (length b.marks) (length b.counts)
    (length b.levels)
unfolding sound shaped
sound_fits p b e = fitting p _ _ _ _ _ (and_left (shaped p b) _ e)

-- identity, group and mark in range
pub head_bounds : (x g m : ℕ) → head_sound x g m ≡ true → (x ≤ max_identity) × (g < group_count) × (m ≤ 1)
unfolding head_sound
head_bounds x g m e = by (eqb x 0) refl e
  where
    by : (t : Bool) → eqb x 0 ≡ t
        → cond t (eqb g 0 && eqb m 0) (leb x max_identity && (ltb g group_count && leb m 1)) ≡ true
        → (x ≤ max_identity) × (g < group_count) × (m ≤ 1)
    by true z e =
        let a = eqb-true x 0 z in
        let b = eqb-true g 0 (and_left (eqb g 0) _ e) in
        let c = eqb-true m 0 (and_right (eqb g 0) _ e) in
        (omega arith, omega arith, omega arith)
    by false z e =
        let r = and_right (leb x max_identity) _ e in (
          leb-true x max_identity (and_left (leb x max_identity) _ e),
          ltb-true g group_count (and_left (ltb g group_count) _ r),
          leb-true m 1 (and_right (ltb g group_count) _ r),
        )

-- the tests that a sound row passed
pub record RowParts (x g m : ℕ) (cs ls : List ℕ) : Type 0 where
  pub head : head_sound x g m ≡ true
  pub counts : all_within (top_count x) cs ≡ true
  pub levels : all_within (top_level m) ls ≡ true
  pub elsewhere : zero_elsewhere cs ls ≡ true

pub row_parts : (x g m : ℕ) (cs ls : List ℕ) → row_sound x g m cs ls ≡ true → RowParts x g m cs ls
unfolding row_sound cells_sound
row_parts x g m cs ls e =
    let c = and_right (head_sound x g m) _ e in
    let l = and_right (all_within (top_count x) cs) _ c in
    record {
      head = and_left (head_sound x g m) _ e;
      counts = and_left (all_within (top_count x) cs) _ c;
      levels = and_left (all_within (top_level m) ls) _ l;
      elsewhere = and_right (all_within (top_level m) ls) _ l;
    }

pub parts_row : (x g m : ℕ) (cs ls : List ℕ) → RowParts x g m cs ls → row_sound x g m cs ls ≡ true
unfolding row_sound cells_sound
parts_row x g m cs ls r = rw (r.head, r.counts, r.levels) r.elsewhere

pub sound_rises : (p : ℕ) (b : Book) → sound p b ≡ true → rising b.identities ≡ true
unfolding sound
sound_rises p b e = and_left (rising b.identities) _ (and_right (shaped p b) _ e)

pub sound_rows : (p : ℕ) (b : Book) → sound p b ≡ true
    → rows_sound p b.identities b.groups b.marks b.counts b.levels ≡ true
unfolding sound
sound_rows p b e = and_right (rising b.identities) _ (and_right (shaped p b) _ e)

ids_within : (p : ℕ) (xs gs ms cs ls : List ℕ) → rows_sound p xs gs ms cs ls ≡ true → length gs ≡ length xs
    → length ms ≡ length xs → all_within max_identity xs ≡ true
unfolding rows_sound all_within
ids_within p [] gs ms cs ls e hg hm = refl
ids_within p (x ∷ xs) [] ms cs ls e hg hm = absurd (omega arith)
ids_within p (x ∷ xs) (g ∷ gs) [] cs ls e hg hm = absurd (omega arith)
ids_within p (x ∷ xs) (g ∷ gs) (m ∷ ms) cs ls e hg hm =
    let row = row_parts x g m (take p cs) (take p ls) (and_left (row_sound x g m (take p cs) (take p ls)) _ e) in
    let head = head_bounds x g m row.head in
    rw (le-leb x max_identity head.0)
    (ids_within p xs gs ms (drop p cs) (drop p ls) (and_right (row_sound x g m (take p cs) (take p ls)) _ e)
    (omega arith) (omega arith))

pub sound-identities : (p : ℕ) (b : Book) → sound p b ≡ true → all_within max_identity b.identities ≡ true
sound-identities p b e =
    let f = sound_fits p b e in
    ids_within p b.identities b.groups b.marks b.counts b.levels (sound_rows p b e) f.groups=
    f.marks=
