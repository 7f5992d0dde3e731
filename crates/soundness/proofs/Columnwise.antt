-- What rows have at each point, tested over whole columns: by folds over them, for a row, and for all rows.
-- Assumes nothing.
use mathlib.Core.{Path.◌≡◌, Path.refl, Path.sym, Path.ap, Path.◌∙◌, Bool.Bool, Bool.true, Bool.false, Bool.cond}
use mathlib.Core.{Bool.◌&&◌, Bool.◌||◌, Bool.and-true, Bool.and-false, Bool.true≢false}
use mathlib.Core.List.{List, [], ◌∷◌}
use Prim.Native.Nat.{ℕ, zero, suc, ◌+◌, ◌-◌, ◌*◌}
use native.Mathlib.{Nat.zero-mul, Nat.suc-mul, Omega.arith}
use lib.{ListN.length, ListN.take, ListN.drop, ListN.length-drop, Seq.drop-drop, Dec.eqb, Dec.leb}
use lib.{Dec.ltb}
use borrow.Author.Tests.{lt-ltb, lt-leb, ne_eqb}
use Rattle.std.specs.List.{fold, zip}
use Rattle.std.proofs.Math.Bool.{and_assoc}
use Rattle.refusal.specs.Range.{all_within}
use Rattle.refusal.proofs.Laws.{and_left, and_right, nil_of_lem}
use Rattle.refusal.proofs.Ranges.{within_at, within_each}
use Rattle.movement.specs.{Limits.max_count, Limits.max_level, Rules.zero_elsewhere}
use Rattle.movement.proofs.Elsewhere.{elsewhere_each}
use Rattle.book_rules.specs.Columns.{head_sound, top_count, top_level, cells_sound, row_sound, rows_sound}
use Rattle.book_rules.specs.Columns.{shape_fits, rising, book_lent, shaped, sound}
use Rattle.book_rules.proofs.Shapes.{row_parts, fitting}

-- The folds

within_from : (top : ℕ) (s : Bool) (ls : List ℕ)
    → fold (λ (t : Bool) (l : ℕ). t && leb l top) s ls ≡ (s && all_within top ls)
unfolding all_within
within_from top s [] = sym (and-true s)
within_from top s (l ∷ ls) = within_from top (s && leb l top) ls ∙ and_assoc s (leb l top) (all_within top ls)

pub within_fold : (top : ℕ) (ls : List ℕ) (b : Bool)
    → b ≡ fold (λ (t : Bool) (l : ℕ). t && leb l top) true ls → b ≡ all_within top ls
within_fold top ls b e = e ∙ within_from top true ls

-- levels in range, and zero where the row doesn't count
abbrev held_within : (cs ls : List ℕ) → Bool
held_within cs ls = all_within max_level ls && zero_elsewhere cs ls

held_cell : (c l : ℕ) → (leb l max_level && (ltb 0 c || eqb l 0)) ≡ leb l (top_level c)
unfolding top_level
held_cell zero zero = refl
held_cell zero (suc l) =
    rw (ne_eqb (suc l) 0 (λ e. omega arith), lt-leb (suc l) 0 (omega arith)) (and-false (leb (suc l) max_level))
held_cell (suc c) l =
    rw (ne_eqb (suc c) 0 (λ e. omega arith), lt-ltb 0 (suc c) (omega arith)) (and-true (leb l max_level))

regroup_two : (a b c d : Bool) → ((a && b) && (c && d)) ≡ ((a && c) && (b && d))
regroup_two false b c d = refl
regroup_two true b true d = refl
regroup_two true false false d = refl
regroup_two true true false d = refl

-- what a cell says, and what the later ones do
cell : (s a b d A B D : Bool) → (((s && a) && (b && d)) && (A && (B && D)))
    ≡ (s && ((a && A) && ((b && B) && (d && D))))
cell false a b d A B D = refl
cell true false b d A B D = refl
cell true true b d A B D = by b d A B
  where
    by : (b d A B : Bool) → ((b && d) && (A && (B && D))) ≡ (A && ((b && B) && (d && D)))
    by false d true B = refl
    by false d false B = refl
    by true false true true = refl
    by true false true false = refl
    by true false false B = refl
    by true true true B = refl
    by true true false B = refl

cells_from : (s : Bool) (cs ls : List ℕ) → length ls ≡ length cs
    → fold (λ (t : Bool) (p : ℕ × ℕ). (t && leb p.0 max_count) && leb p.1 (top_level p.0)) s (zip cs ls)
    ≡ (s && (all_within max_count cs && held_within cs ls))
unfolding all_within zero_elsewhere
cells_from s [] [] h = sym (and-true s)
cells_from s [] (l ∷ ls) h = absurd (omega arith)
cells_from s (c ∷ cs) [] h = absurd (omega arith)
cells_from s (c ∷ cs) (l ∷ ls) h =
    cells_from ((s && leb c max_count) && leb l (top_level c)) cs ls (omega arith)
    ∙ rw (← held_cell c l)
    (cell s (leb c max_count) (leb l max_level) (ltb 0 c || eqb l 0) (all_within max_count cs) (all_within max_level ls)
    (zero_elsewhere cs ls))

pub cells_fold : (cs ls : List ℕ) (b : Bool) → length ls ≡ length cs
    → b ≡ fold (λ (t : Bool) (p : ℕ × ℕ). (t && leb p.0 max_count) && leb p.1 (top_level p.0)) true (zip cs ls)
    → b ≡ cells_sound 1 1 cs ls
unfolding cells_sound top_count top_level
cells_fold cs ls b h e = e ∙ cells_from true cs ls h

-- A row, where its values passed

pub row_light : (x g m : ℕ) (cs ls : List ℕ) → cells_sound 1 1 cs ls ≡ true
    → row_sound x g m cs ls
    ≡ (head_sound x g m && (cond (eqb x 0) (all_within 0 cs) true && all_within (top_level m) ls))
unfolding row_sound cells_sound top_count
row_light x g m cs ls e =
    let counted = and_left (all_within max_count cs) _ e in
    let silent = and_right (all_within (top_level 1) ls) _ (and_right (all_within max_count cs) _ e) in
    ap (λ (b : Bool). head_sound x g m && b)
    (rw (silent, and-true (all_within (top_level m) ls)) (by (eqb x 0) (all_within (top_level m) ls) counted))
  where
    by : (s r : Bool) → all_within max_count cs ≡ true
        → (all_within (cond s 0 max_count) cs && r) ≡ (cond s (all_within 0 cs) true && r)
    by true r a = refl
    by false r a = rw a refl

-- All rows

-- the test of columns, cut at n

cut : (b w t d : Bool) → w ≡ (t && d) → (b && w) ≡ ((b && t) && d)
cut true w t d e = e
cut false w t d e = refl

within_split : (top n : ℕ) (xs : List ℕ) → all_within top xs
    ≡ (all_within top (take n xs) && all_within top (drop n xs))
unfolding all_within
within_split top zero xs = refl
within_split top (suc n) [] = refl
within_split top (suc n) (x ∷ xs) = cut (leb x top) _ _ _ (within_split top n xs)

elsewhere_split : (n : ℕ) (cs ls : List ℕ)
    → zero_elsewhere cs ls ≡ (zero_elsewhere (take n cs) (take n ls) && zero_elsewhere (drop n cs) (drop n ls))
unfolding zero_elsewhere
elsewhere_split zero cs ls = refl
elsewhere_split (suc n) [] ls = refl
elsewhere_split (suc n) (c ∷ cs) [] = sym (elsewhere_each (drop n cs) [] (λ j h z. refl))
elsewhere_split (suc n) (c ∷ cs) (l ∷ ls) = cut (ltb 0 c || eqb l 0) _ _ _ (elsewhere_split n cs ls)

cells_split : (n : ℕ) (cs ls : List ℕ)
    → cells_sound 1 1 cs ls ≡ (cells_sound 1 1 (take n cs) (take n ls) && cells_sound 1 1 (drop n cs) (drop n ls))
unfolding cells_sound top_count top_level
cells_split n cs ls =
    let a = all_within max_count (take n cs) in
    let b = all_within max_count (drop n cs) in
    let c = all_within max_level (take n ls) in
    let d = all_within max_level (drop n ls) in
    let e = zero_elsewhere (take n cs) (take n ls) in
    let f = zero_elsewhere (drop n cs) (drop n ls) in
    rw (within_split max_count n cs, within_split max_level n ls, elsewhere_split n cs ls)
    (ap (λ (k : Bool). (a && b) && k) (regroup_two c d e f) ∙ regroup_two a b (c && e) (d && f))

-- columns that pass from a row on pass in that row and after it
pub cells_row : (p at : ℕ) (cs ls : List ℕ) → cells_sound 1 1 (drop at cs) (drop at ls) ≡ true
    → (cells_sound 1 1 (take (at + p - at) (drop at cs)) (take (at + p - at) (drop at ls)) ≡ true)
    × (cells_sound 1 1 (drop (at + p) cs) (drop (at + p) ls) ≡ true)
cells_row p at cs ls e =
    let q : at + p - at ≡ p = omega arith in
    let row = cells_sound 1 1 (take p (drop at cs)) (take p (drop at ls)) in
    let two = sym (cells_split p (drop at cs) (drop at ls)) ∙ e in
    (rw q (and_left row _ two), rw (drop-drop p at cs, drop-drop p at ls) at (and_right row _ two))

widened : (b : Bool) (top : ℕ) (xs : List ℕ) → all_within (cond b 0 top) xs ≡ true → all_within top xs ≡ true
widened true top xs e = within_each top xs (λ i h. omega (arith, within_at 0 xs i e))
widened false top xs e = e

row_cells : (x g m : ℕ) (cs ls : List ℕ) → row_sound x g m cs ls ≡ true → cells_sound 1 1 cs ls ≡ true
unfolding cells_sound top_count top_level
row_cells x g m cs ls e =
    let r = row_parts x g m cs ls e in
    rw (widened (eqb x 0) max_count cs r.counts, widened (eqb m 0) max_level ls r.levels) r.elsewhere

-- rows that are sound pass as columns
rows_cells : (p : ℕ) (xs gs ms cs ls : List ℕ) → length gs ≡ length xs → length ms ≡ length xs
    → length cs ≡ length xs * p → length ls ≡ length xs * p
    → rows_sound p xs gs ms cs ls ≡ true → cells_sound 1 1 cs ls ≡ true
unfolding rows_sound cells_sound all_within zero_elsewhere
rows_cells p [] gs ms cs ls hg hm hc hl e =
    rw (nil_of_lem cs (omega (arith, zero-mul p)), nil_of_lem ls (omega (arith, zero-mul p))) refl
rows_cells p (x ∷ xs) [] ms cs ls hg hm hc hl e = absurd (omega arith)
rows_cells p (x ∷ xs) (g ∷ gs) [] cs ls hg hm hc hl e = absurd (omega arith)
rows_cells p (x ∷ xs) (g ∷ gs) (m ∷ ms) cs ls hg hm hc hl e =
    let row = row_sound x g m (take p cs) (take p ls) in
    let more = suc-mul (length xs) p in
    cells_split p cs ls
    ∙ rw (
      row_cells x g m (take p cs) (take p ls) (and_left row _ e),
      rows_cells p xs gs ms (drop p cs) (drop p ls) (omega arith) (omega arith) (omega (arith, length-drop p cs))
          (omega (arith, length-drop p ls)) (and_right row _ e),
    ) refl

-- so columns that don't pass have a row that isn't sound
cells_fail : (p : ℕ) (xs gs ms cs ls : List ℕ) → length gs ≡ length xs → length ms ≡ length xs
    → length cs ≡ length xs * p → length ls ≡ length xs * p
    → cells_sound 1 1 cs ls ≡ false → rows_sound p xs gs ms cs ls ≡ false
cells_fail p xs gs ms cs ls hg hm hc hl k = by (rows_sound p xs gs ms cs ls) refl
  where
    by : (t : Bool) → rows_sound p xs gs ms cs ls ≡ t → t ≡ false
    by false e = refl
    by true e = absurd (true≢false (sym (rows_cells p xs gs ms cs ls hg hm hc hl e) ∙ k))

-- a book is sound by its shape, its identities, what its columns have at each point, and its rows
pub by_columns : (p : ℕ) (ids gs ms cs ls : List ℕ) → sound p (book_lent ids gs ms cs ls)
    ≡ (((shape_fits p (length ids) (length gs) (length ms) (length cs) (length ls) && rising ids)
    && cells_sound 1 1 cs ls) && rows_sound p ids gs ms cs ls)
unfolding sound shaped
by_columns p ids gs ms cs ls =
    by (shape_fits p (length ids) (length gs) (length ms) (length cs) (length ls)) refl (cells_sound 1 1 cs ls) refl
  where
    by : (s : Bool) → shape_fits p (length ids) (length gs) (length ms) (length cs) (length ls) ≡ s
        → (c : Bool) → cells_sound 1 1 cs ls ≡ c
        → (s && (rising ids && rows_sound p ids gs ms cs ls))
        ≡ (((s && rising ids) && c) && rows_sound p ids gs ms cs ls)
    by false e c f = refl
    by true e true f = ap (λ t. t && rows_sound p ids gs ms cs ls) (sym (and-true (rising ids)))
    by true e false f =
        let fit = fitting _ _ _ _ _ _ e in
        rw (cells_fail p ids gs ms cs ls fit.groups= fit.marks= fit.counts= fit.levels= f, and-false (rising ids)) refl
