-- Every sound book is the rows of a list of movements: soundness says no less than the rules do. Assumes nothing.
use mathlib.Core.Path.{◌≡◌, refl, sym, ap, subst, ◌∙◌}
use mathlib.Core.Bool.{Bool, true, false, cond, ◌&&◌, ◌||◌, true≢false}
use mathlib.Core.List.{List, [], ◌∷◌, ◌++◌}
use Prim.Native.Nat.{ℕ, zero, suc, ◌+◌, ◌*◌, ◌≤◌}
use native.Mathlib.{Nat.mul-one, Nat.suc-mul, Nat.zero-mul, Omega.arith}
use lib.ListN.{length, take, drop, replicate, length-drop, length-replicate, take-append-drop}
use lib.{ListN.replicate-append-replicate, Seq.length-take-le, Dec.eqb, Dec.leb, Dec.ltb}
use borrow.Author.Tests.{leb-true, ltb-true, eqb-true, eqb-false, ne_eqb}
use Rattle.refusal.specs.Range.{all_within}
use Rattle.refusal.proofs.Laws.{and_left, and_right, nil_of_lem}
use Rattle.movement.specs.{Limits.max_count, Rules.zero_elsewhere}
use Rattle.book_rules.specs.Columns.{Book, sound, rising, followed, follows, head_sound, top_level, top_count}
use Rattle.book_rules.specs.Columns.{row_sound, rows_sound}
use Rattle.book_rules.specs.History.{Held, Movement, movement, mark_of, levels_of, column, identity_cell}
use Rattle.book_rules.specs.History.{group_cell, mark_cell, count_cells, level_cells}
use Rattle.book_rules.specs.History.Held.{none, holds}
use Rattle.book_rules.proofs.Shapes.{sound_fits, sound_rises, sound_rows, head_bounds, row_parts}
use Rattle.book_rules.proofs.Standing.{Filled, AllGood, Below, Rising, zeros_within}

-- Columns of p values a row

-- values that are at most 0 are zeros
zeros_of : {n : ℕ} (vs : List ℕ) → all_within 0 vs ≡ true → length vs ≡ n → vs ≡ replicate n 0
unfolding all_within
zeros_of vs e h = all vs e ∙ ap (λ k. replicate k 0) h
  where
    all : (vs : List ℕ) → all_within 0 vs ≡ true → vs ≡ replicate (length vs) 0
    all [] e = refl
    all (v ∷ vs) e =
        let z : v ≡ 0 = omega (arith, leb-true v 0 (and_left (leb v 0) _ e)) in
        λ i. z i ∷ all vs (and_right (leb v 0) _ e) i

-- no rows have no values
no_cells : (p : ℕ) (vs : List ℕ) → length vs ≡ zero * p → vs ≡ replicate (zero * p) 0
no_cells p vs h = nil_of_lem vs (h ∙ zero-mul p) ∙ ap (λ k. replicate k 0) (sym (zero-mul p))

-- the values of the first row, and those of the others
first_cells : (p n : ℕ) (vs : List ℕ) → length vs ≡ suc n * p
    → (length (take p vs) ≡ p) × (length (drop p vs) ≡ n * p)
first_cells p n vs h = let s = suc-mul n p in (length-take-le p vs (omega arith), omega (arith, length-drop p vs))

-- a row of zeros before rows of zeros
more_zeros : (p n : ℕ) (vs : List ℕ) → take p vs ≡ replicate p 0 → drop p vs ≡ replicate (n * p) 0
    → vs ≡ replicate (suc n * p) 0
more_zeros p n vs first rest =
    let size : p + n * p ≡ suc n * p = omega (arith, suc-mul n p) in
    sym (take-append-drop p vs)
    ∙ (λ i. first i ++ rest i)
    ∙ replicate-append-replicate p (n * p) 0
    ∙ ap (λ k. replicate k 0) size

-- Unused rows

-- n unused rows
pub record Zeros (p n : ℕ) (xs gs ms cs ls : List ℕ) : Type 0 where
  pub ids : xs ≡ replicate n 0
  pub groups : gs ≡ replicate n 0
  pub marks : ms ≡ replicate n 0
  pub counts : cs ≡ replicate (n * p) 0
  pub levels : ls ≡ replicate (n * p) 0

no_rows : (p : ℕ) (cs ls : List ℕ) → length cs ≡ zero * p → length ls ≡ zero * p → Zeros p zero [] [] [] cs ls
no_rows p cs ls hc hl =
    record { ids = refl; groups = refl; marks = refl; counts = no_cells p cs hc; levels = no_cells p ls hl }

-- an unused row is zero throughout
row_zero : (p g m : ℕ) (c l : List ℕ) → row_sound 0 g m c l ≡ true → length c ≡ p → length l ≡ p
    → (g ≡ 0) × (m ≡ 0) × (c ≡ replicate p 0) × (l ≡ replicate p 0)
unfolding head_sound top_level top_count
row_zero p g m c l e hc hl =
    let r = row_parts 0 g m c l e in
    let head : (eqb g 0 && eqb m 0) ≡ true = r.head in
    let z = eqb-true m 0 (and_right (eqb g 0) _ head) in
    let w : all_within 0 l ≡ true = subst (λ k. all_within (top_level k) l ≡ true) z r.levels in
    (eqb-true g 0 (and_left (eqb g 0) _ head), z, zeros_of c r.counts hc, zeros_of l w hl)

follows_zero : (x : ℕ) → follows 0 x ≡ true → x ≡ 0
unfolding follows
follows_zero x e = by (eqb x 0) refl e
  where
    by : (t : Bool) → eqb x 0 ≡ t → (t || (ltb 0 0 && ltb 0 x)) ≡ true → x ≡ 0
    by true z e = eqb-true x 0 z
    by false z e = absurd (true≢false (sym e))

-- after an unused row come only unused ones
zero_rows : (p : ℕ) (xs gs ms cs ls : List ℕ) → rising (0 ∷ xs) ≡ true → rows_sound p xs gs ms cs ls ≡ true
    → length gs ≡ length xs → length ms ≡ length xs → length cs ≡ length xs * p → length ls ≡ length xs * p
    → Zeros p (length xs) xs gs ms cs ls
unfolding rising followed rows_sound
zero_rows p [] [] [] cs ls r e hg hm hc hl = no_rows p cs ls hc hl
zero_rows p [] (g ∷ gs) ms cs ls r e hg hm hc hl = absurd (omega arith)
zero_rows p [] [] (m ∷ ms) cs ls r e hg hm hc hl = absurd (omega arith)
zero_rows p (x ∷ xs) [] ms cs ls r e hg hm hc hl = absurd (omega arith)
zero_rows p (x ∷ xs) (g ∷ gs) [] cs ls r e hg hm hc hl = absurd (omega arith)
zero_rows p (x ∷ xs) (g ∷ gs) (m ∷ ms) cs ls r e hg hm hc hl =
    let n = length xs in
    let this = row_sound x g m (take p cs) (take p ls) in
    let z = follows_zero x (and_left (followed 0 (x ∷ xs)) _ r) in
    let c = first_cells p n cs hc in
    let l = first_cells p n ls hl in
    let row = row_zero p g m (take p cs) (take p ls)
    (subst (λ k. row_sound k g m (take p cs) (take p ls) ≡ true) z (and_left this _ e)) c.0 l.0 in
    let rest = zero_rows p xs gs ms (drop p cs) (drop p ls)
    (subst (λ k. rising (k ∷ xs) ≡ true) z (and_right (followed 0 (x ∷ xs)) _ r)) (and_right this _ e)
    (omega arith) (omega arith) c.1 l.1 in
    record {
      ids = λ i. z i ∷ rest.ids i;
      groups = λ i. row.0 i ∷ rest.groups i;
      marks = λ i. row.1 i ∷ rest.marks i;
      counts = more_zeros p n cs row.2 rest.counts;
      levels = more_zeros p n ls row.3 rest.levels;
    }

-- The list of a sound book

pub record Read (p : ℕ) (xs gs ms cs ls : List ℕ) : Type 0 where
  pub unused : ℕ
  pub list : List Movement
  pub same : unused + length list ≡ length xs
  pub ids : xs ≡ column identity_cell 1 unused list
  pub groups : gs ≡ column group_cell 1 unused list
  pub marks : ms ≡ column mark_cell 1 unused list
  pub counts : cs ≡ column count_cells p unused list
  pub levels : ls ≡ column (level_cells p) p unused list
  pub good : AllGood p list
  pub rising : Rising list

-- only unused rows
read_none : {p n : ℕ} {xs gs ms cs ls : List ℕ} → Zeros p n xs gs ms cs ls → Read p xs gs ms cs ls
unfolding column
read_none {p} {n} z =
    record {
      unused = n;
      list = [];
      same = omega (arith, ap length z.ids, length-replicate {A = ℕ} n 0);
      ids = z.ids ∙ ap (λ k. replicate k 0) (sym (mul-one n));
      groups = z.groups ∙ ap (λ k. replicate k 0) (sym (mul-one n));
      marks = z.marks ∙ ap (λ k. replicate k 0) (sym (mul-one n));
      counts = z.counts;
      levels = z.levels;
      good = tt;
      rising = tt;
    }

-- levels and mark of a used row
held_of : ℕ → List ℕ → Held
held_of m l = cond (eqb m 0) none (holds l)

record Kept (p m : ℕ) (l : List ℕ) : Type 0 where
  mark : m ≡ mark_of (held_of m l)
  part : l ≡ levels_of p (held_of m l)
  filled : Filled p (held_of m l)

kept : (p m : ℕ) (l : List ℕ) → m ≤ 1 → length l ≡ p → all_within (top_level m) l ≡ true → Kept p m l
unfolding held_of mark_of levels_of top_level
kept p zero l h k e =
    record {
      mark = refl;
      part = zeros_of l e k;
      filled = record { wide = length-replicate {A = ℕ} p 0; within = zeros_within 0 p };
    }
kept p (suc zero) l h k e = record { mark = refl; part = refl; filled = record { wide = k; within = e } }
kept p (suc (suc m)) l h k e = absurd (omega arith)

-- the next identity is higher
below_next : (p u x : ℕ) (list : List Movement) → AllGood p list
    → followed x (column identity_cell 1 u list) ≡ true
    → Below x list
unfolding column followed follows
below_next p u x [] g e = tt
below_next p u x (a ∷ list) g e =
    let f : (ltb 0 x && ltb x a.identity) ≡ true = rw (ne_eqb a.identity 0 (omega (arith, g.0.low))) at e in
    ltb-true x a.identity (and_right (ltb 0 x) _ f)

used_top : (x : ℕ) → (x ≡ 0 → ⊥) → top_count x ≡ max_count
unfolding top_count
used_top x n = rw (ne_eqb x 0 n) refl

-- a used row before rows that were read
read_row_lem : (p x g m : ℕ) (xs gs ms cs ls : List ℕ) → (x ≡ 0 → ⊥)
    → row_sound x g m (take p cs) (take p ls) ≡ true → length (take p cs) ≡ p → length (take p ls) ≡ p
    → followed x xs ≡ true → Read p xs gs ms (drop p cs) (drop p ls)
    → Read p (x ∷ xs) (g ∷ gs) (m ∷ ms) cs ls
unfolding column
read_row_lem p x g m xs gs ms cs ls n e wide w f r =
    let row = row_parts x g m (take p cs) (take p ls) e in
    let head = head_bounds x g m row.head in
    let k = kept p m (take p ls) head.2 w row.levels in
    let within = subst (λ t. all_within t (take p cs) ≡ true) (used_top x n) row.counts in
    let silent = subst (λ (l : List ℕ). zero_elsewhere (take p cs) l ≡ true) k.part row.elsewhere in
    let a = movement x g (take p cs) (held_of m (take p ls)) in
    record {
      unused = r.unused;
      list = a ∷ r.list;
      same = omega (arith, r.same);
      ids = λ i. x ∷ r.ids i;
      groups = λ i. g ∷ r.groups i;
      marks = λ i. k.mark i ∷ r.marks i;
      counts = sym (take-append-drop p cs) ∙ (λ i. take p cs ++ r.counts i);
      levels = sym (take-append-drop p ls) ∙ (λ i. k.part i ++ r.levels i);
      good = (
        record {
          low = omega arith;
          high = head.0;
          group< = head.1;
          counted = record { wide = wide; within = within };
          filled = k.filled;
          silent = silent;
        },
        r.good,
      );
      rising = (
        below_next p r.unused x r.list r.good
            (subst (λ (l : List ℕ). followed x l ≡ true) r.ids f),
        r.rising,
      );
    }

rise_zero : (x : ℕ) (xs : List ℕ) → eqb x 0 ≡ true → rising (x ∷ xs) ≡ true
    → rising (0 ∷ (x ∷ xs)) ≡ true
unfolding rising followed follows
rise_zero x xs z r = rw z r

read : (p : ℕ) (xs gs ms cs ls : List ℕ) → rising xs ≡ true → rows_sound p xs gs ms cs ls ≡ true
    → length gs ≡ length xs → length ms ≡ length xs → length cs ≡ length xs * p → length ls ≡ length xs * p
    → Read p xs gs ms cs ls
unfolding rising rows_sound
read p [] [] [] cs ls r e hg hm hc hl = read_none (no_rows p cs ls hc hl)
read p [] (g ∷ gs) ms cs ls r e hg hm hc hl = absurd (omega arith)
read p [] [] (m ∷ ms) cs ls r e hg hm hc hl = absurd (omega arith)
read p (x ∷ xs) [] ms cs ls r e hg hm hc hl = absurd (omega arith)
read p (x ∷ xs) (g ∷ gs) [] cs ls r e hg hm hc hl = absurd (omega arith)
read p (x ∷ xs) (g ∷ gs) (m ∷ ms) cs ls r e hg hm hc hl =
    let this = row_sound x g m (take p cs) (take p ls) in
    let c = first_cells p (length xs) cs hc in
    let l = first_cells p (length xs) ls hl in
    by (eqb x 0) refl
    (λ z. read_row_lem p x g m xs gs ms cs ls z (and_left this _ e) c.0 l.0 (and_left (followed x xs) _ r)
    (read p xs gs ms (drop p cs) (drop p ls) (and_right (followed x xs) _ r) (and_right this _ e) (omega arith)
    (omega arith) c.1 l.1))
  where
    by : (t : Bool) → eqb x 0 ≡ t → ((x ≡ 0 → ⊥) → Read p (x ∷ xs) (g ∷ gs) (m ∷ ms) cs ls)
        → Read p (x ∷ xs) (g ∷ gs) (m ∷ ms) cs ls
    by true z k = read_none (zero_rows p (x ∷ xs) (g ∷ gs) (m ∷ ms) cs ls (rise_zero x xs z r) e hg hm hc hl)
    by false z k = k (eqb-false x 0 z)

-- a sound book is the rows of its list
pub book_read : (p : ℕ) (b : Book) → sound p b ≡ true
    → Read p b.identities b.groups b.marks b.counts b.levels
book_read p b e =
    let f = sound_fits p b e in
    read p b.identities b.groups b.marks b.counts b.levels (sound_rises p b e) (sound_rows p b e)
    f.groups= f.marks= f.counts= f.levels=
