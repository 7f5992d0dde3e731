-- The test of soundness passes exactly the books that are sound in the rules' words. Assumes nothing.
use mathlib.Core.Path.{◌≡◌, refl, sym, ◌∙◌}
use mathlib.Core.{Bool.Bool, Bool.true, Bool.false, Bool.cond, Bool.◌&&◌, Bool.◌||◌, Logic.inl, Logic.inr}
use mathlib.Core.List.{List, [], ◌∷◌}
use Prim.Native.Nat.{ℕ, zero, suc, ◌+◌, ◌*◌, ◌≤◌, ◌<◌}
use native.Mathlib.{Nat.le_of_suc-le-suc, Nat.not-suc-le-zero, Omega.arith}
use lib.{ListN.length, ListN.take, ListN.drop, ListN.get_or, Dec.eqb, Dec.leb, Dec.ltb}
use borrow.Author.Tests.{ltb-true, eqb-true, le-leb, lt-ltb, eq-eqb, ne_eqb}
use Rattle.refusal.specs.Range.{all_within}
use Rattle.refusal.proofs.{Laws.and_left, Laws.and_right, Ranges.within_at, Ranges.within_each}
use Rattle.movement.specs.Limits.{max_rows, max_points, max_identity, max_count, max_level, group_count}
use Rattle.movement.proofs.Elsewhere.{elsewhere_at, elsewhere_each}
use Rattle.book_rules.specs.Columns.{Book, shape_fits, shaped, follows, followed, rising, head_sound, top_count}
use Rattle.book_rules.specs.Columns.{top_level, row_sound, rows_sound, sound, cells_at}
use Rattle.book_rules.specs.Calls.{Call, refusal}
use Rattle.book_rules.specs.SoundBook.{SoundRow, Later, SoundBook, SoundExactly, SizesRefused}
use Rattle.book_rules.proofs.Shapes.{sound_fits, sound_rises, parts_row}
use Rattle.book_rules.proofs.Cells.{cells_first, cells_next, cell_at, cells_length}
use Rattle.book_rules.proofs.RowFacts.{parts_at, row_facts}

-- Rising identities, by pairs of rows

follows_later : (x y : ℕ) → follows x y ≡ true → Later x y
unfolding follows
follows_later x y e = by (eqb y 0) refl e
  where
    by : (t : Bool) → eqb y 0 ≡ t → (t || (ltb 0 x && ltb x y)) ≡ true → Later x y
    by true z e = inl (eqb-true y 0 z)
    by false z e = inr (ltb-true 0 x (and_left (ltb 0 x) _ e), ltb-true x y (and_right (ltb 0 x) _ e))

later_follows : (x y : ℕ) → Later x y → follows x y ≡ true
unfolding follows
later_follows x y (inl e) = rw (eq-eqb y 0 e) refl
later_follows x y (inr l) = rw (ne_eqb y 0 (omega (arith, l.0, l.1)), lt-ltb 0 x l.0, lt-ltb x y l.1) refl

later_on : (x y z : ℕ) → Later x y → Later y z → Later x z
later_on x y z l (inl e) = inl e
later_on x y z (inl e) (inr m) = absurd (omega (arith, m.0))
later_on x y z (inr l) (inr m) = inr (l.0, omega (arith, l.1, m.1))

first_later : (x : ℕ) (xs : List ℕ) (j : ℕ) → rising (x ∷ xs) ≡ true → j < length xs
    → Later x (get_or xs j 0)
unfolding rising followed
first_later x [] j r h = absurd (not-suc-le-zero h)
first_later x (y ∷ ys) zero r h = follows_later x y (and_left (follows x y) _ r)
first_later x (y ∷ ys) (suc j) r h =
    later_on x y (get_or ys j 0) (follows_later x y (and_left (follows x y) _ r))
    (first_later y ys j (and_right (follows x y) (rising (y ∷ ys)) r) (le_of_suc-le-suc h))

rise_pairs : (xs : List ℕ) (i j : ℕ) → rising xs ≡ true → i < j → j < length xs
    → Later (get_or xs i 0) (get_or xs j 0)
unfolding rising
rise_pairs [] i j r l h = absurd (not-suc-le-zero h)
rise_pairs (x ∷ xs) i zero r l h = absurd (not-suc-le-zero l)
rise_pairs (x ∷ xs) zero (suc j) r l h = first_later x xs j r (le_of_suc-le-suc h)
rise_pairs (x ∷ xs) (suc i) (suc j) r l h =
    rise_pairs xs i j (and_right (followed x xs) (rising xs) r) (le_of_suc-le-suc l) (le_of_suc-le-suc h)

pairs_rise_lem : (xs : List ℕ) → ((i j : ℕ) → i < j → j < length xs → Later (get_or xs i 0) (get_or xs j 0))
    → rising xs ≡ true
unfolding rising followed
pairs_rise_lem [] h = refl
pairs_rise_lem (x ∷ []) h = refl
pairs_rise_lem (x ∷ (y ∷ ys)) h =
    rw (later_follows x y (h 0 1 (omega arith) (omega arith)))
    (pairs_rise_lem (y ∷ ys) (λ i j l k. h (suc i) (suc j) (omega arith) (omega arith)))

-- One row

zero_head : (x g m : ℕ) → head_sound x g m ≡ true → x ≡ 0 → (g ≡ 0) × (m ≡ 0)
unfolding head_sound
zero_head x g m e z =
    let f : (eqb g 0 && eqb m 0) ≡ true = rw (eq-eqb x 0 z) at e in
    (eqb-true g 0 (and_left (eqb g 0) _ f), eqb-true m 0 (and_right (eqb g 0) _ f))

head_of : (x g m : ℕ) → x ≤ 99999 → g < 18 → m ≤ 1 → (x ≡ 0 → (g ≡ 0) × (m ≡ 0))
    → head_sound x g m ≡ true
unfolding head_sound
head_of x g m a b c u = by (eqb x 0) refl
  where
    by : (t : Bool) → eqb x 0 ≡ t
        → cond t (eqb g 0 && eqb m 0) (leb x max_identity && (ltb g group_count && leb m 1)) ≡ true
    by true z = let n = u (eqb-true x 0 z) in rw (eq-eqb g 0 n.0, eq-eqb m 0 n.1) refl
    by false z = rw (le-leb x max_identity a, lt-ltb g group_count b, le-leb m 1 c) refl

-- a value of the row at a point, where its column may hold only zeros in this row
bare_cell : (p i n : ℕ) (xs : List ℕ) (top : ℕ) → all_within (cond (eqb n 0) 0 top) (cells_at p i xs) ≡ true
    → n ≡ 0 → (j : ℕ) → j < p → get_or xs (i * p + j) 0 ≡ 0
bare_cell p i n xs top w z j h =
    let k : all_within 0 (cells_at p i xs) ≡ true = rw (eq-eqb n 0 z) at w in
    omega (arith, within_at 0 (cells_at p i xs) j k, cell_at p i xs j h)

row_words : (p : ℕ) (b : Book) (i : ℕ) → sound p b ≡ true → i < length b.identities → SoundRow p b i
unfolding top_count top_level
row_words p b i e h =
    let x = get_or b.identities i 0 in
    let g = get_or b.groups i 0 in
    let m = get_or b.marks i 0 in
    let s = parts_at p b i e h in
    let r = row_facts p b i e h in
    let wide = cells_length p i (length b.identities) b.counts h (sound_fits p b e).counts= in
    record {
      identity = r.identity≤;
      group = r.group<;
      mark = r.mark≤;
      count = r.count≤;
      level = r.level≤;
      bare = bare_cell p i m b.levels max_level s.levels;
      silent = λ j k z.
          sym (cell_at p i b.levels j k)
          ∙ elsewhere_at (cells_at p i b.counts) (cells_at p i b.levels) j s.elsewhere (omega arith)
          (cell_at p i b.counts j k ∙ z);
      unused = zero_head x g m s.head;
      nowhere = bare_cell p i x b.counts max_count s.counts;
    }

-- a row's values pass, where each is in range, and zero where only zeros may stand
cells_pass : (p i n : ℕ) (xs : List ℕ) (top : ℕ) → length (cells_at p i xs) ≡ p
    → ((j : ℕ) → j < p → get_or xs (i * p + j) 0 ≤ top)
    → (n ≡ 0 → (j : ℕ) → j < p → get_or xs (i * p + j) 0 ≡ 0)
    → all_within (cond (eqb n 0) 0 top) (cells_at p i xs) ≡ true
cells_pass p i n xs top w h z = by (eqb n 0) refl
  where
    by : (t : Bool) → eqb n 0 ≡ t → all_within (cond t 0 top) (cells_at p i xs) ≡ true
    by true k =
        within_each 0 (cells_at p i xs)
        (λ j l. omega (arith, cell_at p i xs j (omega arith), z (eqb-true n 0 k) j (omega arith)))
    by false k =
        within_each top (cells_at p i xs)
        (λ j l. omega (arith, cell_at p i xs j (omega arith), h j (omega arith)))

row_passes : (p : ℕ) (b : Book) (i : ℕ) → SoundBook p b → i < length b.identities
    → row_sound (get_or b.identities i 0) (get_or b.groups i 0) (get_or b.marks i 0) (cells_at p i b.counts)
    (cells_at p i b.levels) ≡ true
unfolding top_count top_level
row_passes p b i s h =
    let r = s.row i h in
    let x = get_or b.identities i 0 in
    let m = get_or b.marks i 0 in
    let cs = cells_at p i b.counts in
    let ls = cells_at p i b.levels in
    let c = cells_length p i (length b.identities) b.counts h s.counts in
    let l = cells_length p i (length b.identities) b.levels h s.levels in
    let quiet : (j : ℕ) → j < length cs → get_or cs j 0 ≡ 0 → get_or ls j 0 ≡ 0 =
    λ j k z. cell_at p i b.levels j (omega arith)
    ∙ r.silent j (omega arith) (sym (cell_at p i b.counts j (omega arith)) ∙ z) in
    parts_row x (get_or b.groups i 0) m cs ls (record {
      head = head_of x (get_or b.groups i 0) m r.identity r.group r.mark r.unused;
      counts = cells_pass p i x b.counts max_count c r.count r.nowhere;
      levels = cells_pass p i m b.levels max_level l r.level r.bare;
      elsewhere = elsewhere_each cs ls quiet;
    })

-- All rows

rows_pass : (p : ℕ) (xs gs ms cs ls : List ℕ) → length gs ≡ length xs → length ms ≡ length xs
    → ((i : ℕ) → i < length xs
    → row_sound (get_or xs i 0) (get_or gs i 0) (get_or ms i 0) (cells_at p i cs) (cells_at p i ls) ≡ true)
    → rows_sound p xs gs ms cs ls ≡ true
unfolding rows_sound
rows_pass p [] gs ms cs ls hg hm h = refl
rows_pass p (x ∷ xs) [] ms cs ls hg hm h = refl
rows_pass p (x ∷ xs) (g ∷ gs) [] cs ls hg hm h = refl
rows_pass p (x ∷ xs) (g ∷ gs) (m ∷ ms) cs ls hg hm h =
    let first : row_sound x g m (take p cs) (take p ls) ≡ true =
    rw (cells_first p cs, cells_first p ls) at (h 0 (omega arith)) in
    rw first (rows_pass p xs gs ms (drop p cs) (drop p ls) (omega arith) (omega arith) rest)
  where
    rest : (i : ℕ) → i < length xs
        → row_sound (get_or xs i 0) (get_or gs i 0) (get_or ms i 0) (cells_at p i (drop p cs))
        (cells_at p i (drop p ls))
        ≡ true
    rest i k = rw (cells_next p i cs, cells_next p i ls) (h (suc i) (omega arith))

shape_passes : (p : ℕ) (b : Book) → SoundBook p b → shaped p b ≡ true
unfolding shaped shape_fits
shape_passes p b s =
    let n = length b.identities in
    rw (
      le-leb 1 p s.points.0,
      le-leb p max_points s.points.1,
      le-leb 1 n s.rows.0,
      le-leb n max_rows s.rows.1,
      eq-eqb (length b.groups) n s.groups,
      eq-eqb (length b.marks) n s.marks,
      eq-eqb (length b.counts) (n * p) s.counts,
      eq-eqb (length b.levels) (n * p) s.levels,
    )

-- The theorem

pub sound_exactly : (p : ℕ) (b : Book) → SoundExactly p b
unfolding sound
sound_exactly p b =
    record {
      passes = λ s.
          rw (shape_passes p b s, pairs_rise_lem b.identities s.rising)
          (rows_pass p b.identities b.groups b.marks b.counts b.levels s.groups s.marks
          (λ i h. row_passes p b i s h));
      only = λ e.
          let f = sound_fits p b e in
          record {
            points = (f.some, f.points);
            rows = (f.rows≥, f.rows≤);
            groups = f.groups=;
            marks = f.marks=;
            counts = f.counts=;
            levels = f.levels=;
            rising = λ i j l h. rise_pairs b.identities i j (sound_rises p b e) l h;
            row = λ i h. row_words p b i e h;
          };
    }

-- a book that is not sound refuses every call
pub not_sound : (p : ℕ) (b : Book) (c : Call) → (SoundBook p b → ⊥) → refusal p b c ≡ 9
unfolding refusal
not_sound p b c h = by (sound p b) refl
  where
    by : (t : Bool) → sound p b ≡ t → refusal p b c ≡ 9
    by true e = absurd (h ((sound_exactly p b).only e))
    by false e = rw e refl

pub sizes_refused : (p : ℕ) (b : Book) (c : Call) → SizesRefused p b c
sizes_refused p b c =
    record {
      no_points = λ e. not_sound p b c (λ s. omega (arith, s.points.0));
      many_points = λ e. not_sound p b c (λ s. omega (arith, s.points.1));
      no_rows = λ e. not_sound p b c (λ s. omega (arith, s.rows.0));
      many_rows = λ e. not_sound p b c (λ s. omega (arith, s.rows.1));
    }
