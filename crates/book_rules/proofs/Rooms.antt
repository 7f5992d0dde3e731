-- What a sound book says of its rows where one goes in, goes out or is changed: where the zeros of unused rows begin,
-- and that all fits. Assumes nothing.
use mathlib.Core.{Path.◌≡◌, Path.refl, Path.sym, Path.ap, Path.subst, Path.◌∙◌, Bool.true, Bool.false}
use mathlib.Core.List.{List, [], ◌∷◌, ◌++◌}
use Prim.Native.Nat.{ℕ, suc, ◌+◌, ◌*◌, ◌-◌, ◌≤◌, ◌<◌}
use native.Mathlib.{Nat.mul-one, Nat.one-mul, Nat.zero-mul, Nat.suc-mul, Nat.add-mul, Omega.arith}
use mir.{Syntax.w64, Val.Fits}
use lib.{ListN.length, ListN.drop, ListN.replicate, Seq.drop-append-add}
use borrow.Author.Tests.{lt-leb, ne_eqb}
use Rattle.movement.specs.Limits.{max_identity}
use Rattle.book_rules.specs.Columns.{Book, index_of, place_of, sound}
use Rattle.book_rules.specs.History.{Movement, mark_of, column, identity_cell, group_cell, mark_cell, count_cells}
use Rattle.book_rules.specs.History.{level_cells}
use Rattle.book_rules.specs.InnerRows.{ZeroFrom, RowsTo}
use Rattle.book_rules.proofs.Scans.{room, product_fits}
use Rattle.book_rules.proofs.Search.{reached, place_after, place_last, place_index, index_is, stands_index}
use Rattle.book_rules.proofs.Shapes.{sound_fits, sound_rises, sound-identities}
use Rattle.book_rules.proofs.{Accepted.Stood, Accepted.identity_in, Blocks.Sized, Blocks.length_column}
use Rattle.book_rules.proofs.{Standing.sized_one, Standing.sized_counts, Standing.sized_levels}
use Rattle.book_rules.proofs.{Reading.book_read, Steps.first_unused}

-- The zeros of a sound book's unused rows

column_end_lem : (f : Movement → List ℕ) (w u : ℕ) (ms : List Movement) → Sized f w ms
    → drop (length ms * w) (column f w u ms) ≡ replicate (u * w) 0
unfolding column
column_end_lem f w u [] s = ap (λ n. drop n (replicate (u * w) 0)) (zero-mul w)
column_end_lem f w u (a ∷ ms) s =
    let q : suc (length ms) * w ≡ length (f a) + length ms * w = omega (arith, suc-mul (length ms) w, s.0) in
    ap (λ n. drop n (f a ++ column f w u ms)) q
    ∙ drop-append-add (f a) (column f w u ms) (length ms * w)
    ∙ column_end_lem f w u ms s.1

zero_column : (f : Movement → List ℕ) (w u n : ℕ) (ms : List Movement) (xs : List ℕ) → Sized f w ms
    → xs ≡ column f w u ms → n ≡ length ms * w → ZeroFrom n xs
zero_column f w u n ms xs s e k =
    let l = length_column f w u ms s in
    let m : length xs ≡ u * w + length ms * w = ap length e ∙ l ∙ add-mul u (length ms) w in
    let d : u * w ≡ length xs - n = omega arith in
    record {
      inside = omega arith;
      zeros = ap (drop n) e ∙ ap (λ i. drop i (column f w u ms)) k ∙ column_end_lem f w u ms s
          ∙ ap (λ i. replicate i 0) d;
    }

record Ends (p : ℕ) (b : Book) (rows : ℕ) : Type 0 where
  ids : ZeroFrom rows b.identities
  groups : ZeroFrom rows b.groups
  marks : ZeroFrom rows b.marks
  counts : ZeroFrom (rows * p) b.counts
  levels : ZeroFrom (rows * p) b.levels

ends : (p : ℕ) (b : Book) (rows : ℕ) → sound p b ≡ true → rows ≡ index_of 0 b.identities → Ends p b rows
ends p b rows s e =
    let r = book_read p b s in
    let n : rows ≡ length r.list = e ∙ ap (index_of 0) r.ids
    ∙ first_unused p r.unused r.list r.good in
    let one : rows ≡ length r.list * 1 = n ∙ sym (mul-one (length r.list)) in
    let cells : rows * p ≡ length r.list * p = ap (λ i. i * p) n in
    record {
      ids =
          zero_column identity_cell 1 r.unused rows r.list b.identities
          (sized_one (λ a. a.identity) r.list) r.ids one;
      groups =
          zero_column group_cell 1 r.unused rows r.list b.groups (sized_one (λ a. a.group) r.list)
          r.groups one;
      marks =
          zero_column mark_cell 1 r.unused rows r.list b.marks
          (sized_one (λ a. mark_of a.held) r.list) r.marks one;
      counts =
          zero_column count_cells p r.unused (rows * p) r.list b.counts
          (sized_counts p r.list r.good) r.counts cells;
      levels =
          zero_column (level_cells p) p r.unused (rows * p) r.list b.levels
          (sized_levels p r.list r.good) r.levels cells;
    }

zero_at_lem : {m n : ℕ} {xs : List ℕ} → m ≡ n → ZeroFrom n xs → ZeroFrom m xs
zero_at_lem {m} {n} {xs} e z = subst (λ k. ZeroFrom k xs) (sym e) z

-- Room for a row at `at`, of `rows` that stand: rows - at rows move up

pub record RoomIn (p : ℕ) (b : Book) (at rows : ℕ) : Type 0 where
  pub ids : ZeroFrom (at + (rows - at)) b.identities × (at + (rows - at) + 1 ≤ length b.identities)
  pub groups : ZeroFrom (at + (rows - at)) b.groups × (at + (rows - at) + 1 ≤ length b.groups)
  pub marks : ZeroFrom (at + (rows - at)) b.marks × (at + (rows - at) + 1 ≤ length b.marks)
  pub counts : ZeroFrom (at * p + (rows - at) * p) b.counts × (at * p + (rows - at) * p + p ≤ length b.counts)
  pub levels : ZeroFrom (at * p + (rows - at) * p) b.levels × (at * p + (rows - at) * p + p ≤ length b.levels)
  pub at_fits : Fits w64 (at * p)
  pub count_fits : Fits w64 ((rows - at) * p)

pub room_in : (p : ℕ) (b : Book) (at rows : ℕ) → RowsTo p b at rows → rows < length b.identities
    → RoomIn p b at rows
room_in p b at rows r h =
    let z = ends p b rows r.sound= r.rows= in
    let f = sound_fits p b r.sound= in
    let a = r.at≤ in
    let e : at + (rows - at) ≡ rows = omega arith in
    let q : at * p + (rows - at) * p ≡ rows * p = sym (add-mul at (rows - at) p) ∙ ap (λ n. n * p) e in
    let c = room p rows (rows * p) (length b.identities) (length b.counts) refl h f.counts= in
    let l = room p rows (rows * p) (length b.identities) (length b.levels) refl h f.levels= in
    let m = product_fits rows p (omega (arith, f.rows≤)) f.points in
    record {
      ids = (zero_at_lem e z.ids, omega arith);
      groups = (zero_at_lem e z.groups, omega (arith, f.groups=));
      marks = (zero_at_lem e z.marks, omega (arith, f.marks=));
      counts = (zero_at_lem q z.counts, omega arith);
      levels = (zero_at_lem q z.levels, omega arith);
      at_fits = omega arith;
      count_fits = omega arith;
    }

-- The row at `at` goes out: rows - at - 1 rows move down

pub record RoomOut (p : ℕ) (b : Book) (at rows : ℕ) : Type 0 where
  pub ids : ZeroFrom (at + (rows - at - 1 + 1)) b.identities
  pub groups : ZeroFrom (at + (rows - at - 1 + 1)) b.groups
  pub marks : ZeroFrom (at + (rows - at - 1 + 1)) b.marks
  pub counts : ZeroFrom (at * p + ((rows - at - 1) * p + p)) b.counts
  pub levels : ZeroFrom (at * p + ((rows - at - 1) * p + p)) b.levels
  pub at_fits : Fits w64 (at * p)
  pub count_fits : Fits w64 ((rows - at - 1) * p)

pub room_out : (p : ℕ) (b : Book) (at rows : ℕ) → RowsTo p b at rows → at < rows → RoomOut p b at rows
room_out p b at rows r h =
    let z = ends p b rows r.sound= r.rows= in
    let f = sound_fits p b r.sound= in
    let i = z.ids.inside in
    let n = rows - at - 1 in
    let e : at + (n + 1) ≡ rows = omega arith in
    let q : at * p + (n * p + p) ≡ rows * p =
    omega (arith, add-mul at (n + 1) p, add-mul n 1 p, one-mul p, ap (λ k. k * p) e) in
    let m = product_fits rows p (omega (arith, f.rows≤)) f.points in
    record {
      ids = zero_at_lem e z.ids;
      groups = zero_at_lem e z.groups;
      marks = zero_at_lem e z.marks;
      counts = zero_at_lem q z.counts;
      levels = zero_at_lem q z.levels;
      at_fits = omega arith;
      count_fits = omega arith;
    }

-- The row of an identity that stands

pub record RowOf (p : ℕ) (b : Book) (x at : ℕ) : Type 0 where
  pub index : index_of x b.identities ≡ at
  pub marks< : at + 1 ≤ length b.marks
  pub counts< : at * p + p ≤ length b.counts
  pub levels< : at * p + p ≤ length b.levels
  pub fits : Fits w64 (at * p)
  pub used : at < index_of 0 b.identities

pub row_of_lem : {p x at : ℕ} {b : Book} → sound p b ≡ true → Stood b.identities x
    → at ≡ place_of x b.identities
    → RowOf p b x at
row_of_lem {p} {x} {at} {b} s w e =
    let xs = b.identities in
    let f = sound_fits p b s in
    let low = identity_in x w.identity= in
    let i = stands_index x xs w.stands= in
    let same : index_of x xs ≡ at = place_index x xs low.0 (sound_rises p b s) i ∙ sym e in
    let over : reached (max_identity + 1) x ≡ false =
    rw (ne_eqb x 0 (omega arith), lt-leb (max_identity + 1) x (omega arith)) refl in
    let before = place_after (max_identity + 1) xs (index_of x xs) (sound_rises p b s) i (rw (index_is x xs i) over) in
    let last = place_last max_identity xs (sound-identities p b s) in
    let c = room p at (at * p) (length xs) (length b.counts) refl (omega arith) f.counts= in
    let l = room p at (at * p) (length xs) (length b.levels) refl (omega arith) f.levels= in
    let m = product_fits at p (omega (arith, f.rows≤)) f.points in
    record {
      index = same;
      marks< = omega (arith, f.marks=);
      counts< = c;
      levels< = l;
      fits = m;
      used = omega arith;
    }
