-- Movements that stand: each in range, in rising identity. What each change keeps of that, and that their book is
-- sound. Assumes nothing.
use mathlib.Core.Path.{◌≡◌, refl, sym, ap, subst, ◌∙◌}
use mathlib.Core.{Bool.true, Bool.and-true, Bool.or-true, List.List, List.[], List.◌∷◌, List.◌++◌}
use Prim.Native.Nat.{ℕ, zero, suc, ◌+◌, ◌*◌, ◌≤◌, ◌<◌}
use native.Mathlib.{Nat.mul-one, Nat.suc-mul, Omega.arith}
use lib.ListN.{length, replicate, length-replicate, replicate-append-replicate}
use lib.{Seq.take_at, Seq.drop_at, Dec.leb}
use borrow.Author.Tests.{le-leb, lt-ltb, eq-eqb, ne_eqb}
use Rattle.refusal.specs.Range.{all_within}
use Rattle.movement.specs.{Limits.max_identity, Limits.max_count, Limits.group_count, Rules.zero_elsewhere}
use Rattle.movement.proofs.Elsewhere.{elsewhere_zeros}
use Rattle.book_rules.specs.Columns.{sound, shaped, shape_fits, rising, followed, follows, head_sound, top_level}
use Rattle.book_rules.specs.Columns.{top_count, cells_sound, row_sound, rows_sound}
use Rattle.book_rules.specs.History.{Held, Movement, added, holding, without, counts_for, mark_of, levels_of}
use Rattle.book_rules.specs.History.{column, identity_cell, group_cell, mark_cell, count_cells, level_cells, rows_of}
use Rattle.book_rules.specs.History.{sizes_fit}
use Rattle.book_rules.specs.History.Held.{none, holds}
use Rattle.book_rules.proofs.Blocks.{Place, Found, Sized, length_column, added_last, added_here, added_there}
use Rattle.book_rules.proofs.Blocks.{without_this, without_later, holding_this, holding_later, counts_this}
use Rattle.book_rules.proofs.Blocks.{counts_later}
use Rattle.book_rules.proofs.Blocks.{Place.last, Place.here, Place.there, Found.this, Found.later}

-- a value for every point, none over `top`
pub record PerPoint (p top : ℕ) (vs : List ℕ) : Type 0 where
  pub wide : length vs ≡ p
  pub within : all_within top vs ≡ true

-- levels in range; none counts as zeros
abbrev pub Filled : ℕ → Held → Type 0
Filled p h = PerPoint p (top_level (mark_of h)) (levels_of p h)

-- in range, with levels of zero where it doesn't count
pub record Good (p : ℕ) (a : Movement) : Type 0 where
  pub low : 1 ≤ a.identity
  pub high : a.identity ≤ max_identity
  pub group< : a.group < group_count
  pub counted : PerPoint p max_count a.counts
  pub filled : Filled p a.held
  pub silent : zero_elsewhere a.counts (levels_of p a.held) ≡ true

abbrev pub AllGood : ℕ → List Movement → Type 0
AllGood p [] = Unit {0}
AllGood p (a ∷ ms) = Good p a × AllGood p ms

-- x is below the first identity
abbrev pub Below : ℕ → List Movement → Type 0
Below x [] = Unit {0}
Below x (a ∷ ms) = x < a.identity

abbrev pub Rising : List Movement → Type 0
Rising [] = Unit {0}
Rising (a ∷ ms) = Below a.identity ms × Rising ms

-- x is no identity of theirs
abbrev pub New : ℕ → List Movement → Type 0
New x [] = Unit {0}
New x (a ∷ ms) = (a.identity ≡ x → ⊥) × New x ms

-- A movement goes in

pub good_added : {p : ℕ} (m : Movement) {k : ℕ} {ms : List Movement} → Good p m → AllGood p ms
    → Place m.identity ms k
    → AllGood p (added m ms)
good_added {p} m g s last = subst (AllGood p) (sym (added_last m)) (g, tt)
good_added {p} m g s (here {a} {ms} h) = subst (AllGood p) (sym (added_here m a ms h)) (g, s)
good_added {p} m g s (there {a} {ms} h r) =
    subst (AllGood p) (sym (added_there m a ms h)) (s.0, good_added m g s.1 r)

pub length-added : (m : Movement) {k : ℕ} {ms : List Movement} → Place m.identity ms k
    → length (added m ms) ≡ suc (length ms)
length-added m last = ap length (added_last m)
length-added m (here {a} {ms} h) = ap length (added_here m a ms h)
length-added m (there {a} {ms} h r) = ap length (added_there m a ms h) ∙ ap suc (length-added m r)

below_added : {x k : ℕ} {ms : List Movement} (m : Movement) → x < m.identity → Below x ms
    → Place m.identity ms k
    → Below x (added m ms)
below_added {x} m l s last = subst (Below x) (sym (added_last m)) l
below_added {x} m l s (here {a} {ms} h) = subst (Below x) (sym (added_here m a ms h)) l
below_added {x} m l s (there {a} {ms} h r) = subst (Below x) (sym (added_there m a ms h)) s

pub rising_added : (m : Movement) {k : ℕ} {ms : List Movement} → New m.identity ms → Rising ms
    → Place m.identity ms k → Rising (added m ms)
rising_added m n s last = subst Rising (sym (added_last m)) (tt, tt)
rising_added m n s (here {a} {ms} h) =
    let l : m.identity < a.identity = omega (arith, n.0) in
    subst Rising (sym (added_here m a ms h)) (l, s)
rising_added m n s (there {a} {ms} h r) =
    subst Rising (sym (added_there m a ms h)) (below_added m h s.0 r, rising_added m n.1 s.1 r)

-- A movement goes out

pub good_without : (p : ℕ) {x k : ℕ} {ms : List Movement} → AllGood p ms → Found x ms k
    → AllGood p (without x ms)
good_without p {x} s (this {a} {ms} e) = subst (AllGood p) (sym (without_this x a ms e)) s.1
good_without p {x} s (later {a} {ms} e r) =
    subst (AllGood p) (sym (without_later x a ms e)) (s.0, good_without p s.1 r)

pub length_without : {x k : ℕ} {ms : List Movement} → Found x ms k → suc (length (without x ms)) ≡ length ms
length_without {x} (this {a} {ms} e) = ap (λ (l : List Movement). suc (length l)) (without_this x a ms e)
length_without {x} (later {a} {ms} e r) =
    ap (λ (l : List Movement). suc (length l)) (without_later x a ms e) ∙ ap suc (length_without r)

below_rest : (x : ℕ) (a : Movement) (ms : List Movement) → x < a.identity → Below a.identity ms → Below x ms
below_rest x a [] h s = tt
below_rest x a (b ∷ ms) h s = omega arith

below_without : (y : ℕ) {x k : ℕ} {ms : List Movement} → Below y ms → Rising ms → Found x ms k
    → Below y (without x ms)
below_without y {x} b s (this {a} {ms} e) = subst (Below y) (sym (without_this x a ms e)) (below_rest y a ms b s.0)
below_without y {x} b s (later {a} {ms} e r) = subst (Below y) (sym (without_later x a ms e)) b

pub rising_without : {x k : ℕ} {ms : List Movement} → Rising ms → Found x ms k → Rising (without x ms)
rising_without {x} s (this {a} {ms} e) = subst Rising (sym (without_this x a ms e)) s.1
rising_without {x} s (later {a} {ms} e r) =
    subst Rising (sym (without_later x a ms e)) (below_without a.identity s.0 s.1 r, rising_without s.1 r)

-- A movement holds other levels

-- levels h are zero where the identity x doesn't count
abbrev pub Silent : (p x : ℕ) → Held → List Movement → Type 0
Silent p x h ms = zero_elsewhere (counts_for x ms) (levels_of p h) ≡ true

pub good_holding : {p x k : ℕ} {ms : List Movement} (h : Held) → Filled p h → Silent p x h ms → AllGood p ms
    → Found x ms k
    → AllGood p (holding x h ms)
good_holding {p} {x} h f z s (this {a} {ms} e) =
    let old = s.0 in
    subst (AllGood p) (sym (holding_this x h a ms e)) (
      record {
        low = old.low;
        high = old.high;
        group< = old.group<;
        counted = old.counted;
        filled = f;
        silent = rw (counts_this x a ms e) at z;
      },
      s.1,
    )
good_holding {p} {x} h f z s (later {a} {ms} e r) =
    subst (AllGood p) (sym (holding_later x h a ms e))
    (s.0, good_holding h f (rw (counts_later x a ms e) at z) s.1 r)

pub length-holding : {x k : ℕ} {ms : List Movement} (h : Held) → Found x ms k
    → length (holding x h ms) ≡ length ms
length-holding {x} h (this {a} {ms} e) = ap length (holding_this x h a ms e)
length-holding {x} h (later {a} {ms} e r) = ap length (holding_later x h a ms e) ∙ ap suc (length-holding h r)

below_holding : (y : ℕ) {x k : ℕ} {ms : List Movement} (h : Held) → Below y ms → Found x ms k
    → Below y (holding x h ms)
below_holding y {x} h b (this {a} {ms} e) = subst (Below y) (sym (holding_this x h a ms e)) b
below_holding y {x} h b (later {a} {ms} e r) = subst (Below y) (sym (holding_later x h a ms e)) b

pub rising_holding : {x k : ℕ} {ms : List Movement} (h : Held) → Rising ms → Found x ms k
    → Rising (holding x h ms)
rising_holding {x} h s (this {a} {ms} e) = subst Rising (sym (holding_this x h a ms e)) s
rising_holding {x} h s (later {a} {ms} e r) =
    subst Rising (sym (holding_later x h a ms e)) (below_holding a.identity h s.0 r, rising_holding h s.1 r)

-- The columns' widths

pub sized_one : (g : Movement → ℕ) (ms : List Movement) → Sized (λ a. g a ∷ []) 1 ms
sized_one g [] = tt
sized_one g (a ∷ ms) = (refl, sized_one g ms)

sized_cells : (p : ℕ) (f : Movement → List ℕ) → ((a : Movement) → Good p a → length (f a) ≡ p)
    → (ms : List Movement) → AllGood p ms → Sized f p ms
sized_cells p f w [] s = tt
sized_cells p f w (a ∷ ms) s = (w a s.0, sized_cells p f w ms s.1)

pub sized_counts : (p : ℕ) (ms : List Movement) → AllGood p ms → Sized count_cells p ms
sized_counts p ms s = sized_cells p count_cells (λ a g. g.counted.wide) ms s

pub sized_levels : (p : ℕ) (ms : List Movement) → AllGood p ms → Sized (level_cells p) p ms
sized_levels p ms s = sized_cells p (level_cells p) (λ a g. g.filled.wide) ms s

-- Their book is sound

pub zeros_within : (top n : ℕ) → all_within top (replicate n 0) ≡ true
unfolding all_within
zeros_within top zero = refl
zeros_within top (suc n) = rw (le-leb 0 top (omega arith)) (zeros_within top n)

zeros_rise : (n : ℕ) → rising (replicate n 0) ≡ true
unfolding rising followed follows
zeros_rise zero = refl
zeros_rise (suc zero) = refl
zeros_rise (suc (suc n)) = zeros_rise (suc n)

zeros_follow : (x n : ℕ) → followed x (replicate n 0) ≡ true
unfolding followed follows
zeros_follow x zero = refl
zeros_follow x (suc n) = refl

followed-column : (p u : ℕ) (a : Movement) (ms : List Movement) → Good p a → AllGood p ms
    → Below a.identity ms
    → followed a.identity (column identity_cell 1 u ms) ≡ true
unfolding column followed follows
followed-column p u a [] g s b = zeros_follow a.identity (u * 1)
followed-column p u a (c ∷ ms) g s b =
    simp (lt-ltb 0 a.identity g.low, lt-ltb a.identity c.identity b, or-true)

pub column_rises : (p u : ℕ) (ms : List Movement) → AllGood p ms → Rising ms
    → rising (column identity_cell 1 u ms) ≡ true
unfolding column rising
column_rises p u [] s r = zeros_rise (u * 1)
column_rises p u (a ∷ ms) s r = rw (followed-column p u a ms s.0 s.1 r.0) (column_rises p u ms s.1 r.1)

mark_le : (h : Held) → leb (mark_of h) 1 ≡ true
unfolding mark_of
mark_le none = refl
mark_le (holds ls) = refl

-- a movement's row is sound
row_good : (p : ℕ) (a : Movement) → Good p a
    → row_sound a.identity a.group (mark_of a.held) a.counts (levels_of p a.held) ≡ true
unfolding row_sound head_sound cells_sound top_count
row_good p a g =
    let n : a.identity ≡ 0 → ⊥ = omega (arith, g.low) in
    simp (
      ne_eqb a.identity 0 n,
      le-leb a.identity max_identity g.high,
      lt-ltb a.group group_count g.group<,
      mark_le a.held,
      g.counted.within,
      g.filled.within,
      g.silent,
    )

-- unused rows are sound
zero_rows : (p u : ℕ)
    → rows_sound p (replicate u 0) (replicate u 0) (replicate u 0) (replicate (u * p) 0) (replicate (u * p) 0) ≡ true
unfolding rows_sound row_sound head_sound cells_sound top_level top_count
zero_rows p zero = refl
zero_rows p (suc u) =
    let e : suc u * p ≡ p + u * p = omega (arith, suc-mul u p) in
    let l = length-replicate {A = ℕ} p 0 in
    let q : ◌≡◌ {A = List ℕ} (replicate (suc u * p) 0) (replicate p 0 ++ replicate (u * p) 0) =
    ap (λ n. replicate n 0) e ∙ sym (replicate-append-replicate p (u * p) 0) in
    rw (
      q,
      take_at (replicate p 0) (replicate (u * p) 0) p l,
      drop_at (replicate p 0) (replicate (u * p) 0) p l,
      zeros_within 0 p,
      elsewhere_zeros (replicate p 0) p,
    )
    (zero_rows p u)

pub rows_good : (p u : ℕ) (ms : List Movement) → AllGood p ms
    → rows_sound p (column identity_cell 1 u ms) (column group_cell 1 u ms) (column mark_cell 1 u ms)
    (column count_cells p u ms) (column (level_cells p) p u ms) ≡ true
unfolding column rows_sound
rows_good p u [] s = rw (mul-one u) (zero_rows p u)
rows_good p u (a ∷ ms) s =
    let v = s.0.counted.wide in
    let w = s.0.filled.wide in
    rw (
      take_at a.counts (column count_cells p u ms) p v,
      drop_at a.counts (column count_cells p u ms) p v,
      take_at (levels_of p a.held) (column (level_cells p) p u ms) p w,
      drop_at (levels_of p a.held) (column (level_cells p) p u ms) p w,
      row_good p a s.0,
    )
    (rows_good p u ms s.1)

-- their book is sound exactly if its size is in range
pub book_sound : (p u : ℕ) (ms : List Movement) → AllGood p ms → Rising ms
    → sound p (rows_of p u ms) ≡ sizes_fit p (u + length ms)
unfolding sound shaped shape_fits rows_of sizes_fit
book_sound p u ms g r =
    let n = u + length ms in
    let one : (f : Movement → ℕ) → length (column (λ a. f a ∷ []) 1 u ms) ≡ n =
    λ f. length_column (λ a. f a ∷ []) 1 u ms (sized_one f ms) ∙ mul-one n in
    rw (
      one (λ a. a.identity),
      one (λ a. a.group),
      one (λ a. mark_of a.held),
      length_column count_cells p u ms (sized_counts p ms g),
      length_column (level_cells p) p u ms (sized_levels p ms g),
    )
    (simp (eq-eqb n n refl, eq-eqb (n * p) (n * p) refl, column_rises p u ms g r, rows_good p u ms g, and-true))
