-- A column of a list of movements, w values each: what a change at a row does to it. One law for every column. Assumes
-- nothing.
use mathlib.Core.Path.{◌≡◌, refl, sym, ap, ◌∙◌}
use mathlib.Core.List.{List, [], ◌∷◌, ◌++◌, append_assoc}
use Prim.Native.Nat.{ℕ, zero, suc, ◌+◌, ◌*◌, ◌≤◌, ◌<◌}
use native.Mathlib.{Nat.suc-mul, Nat.zero-mul, Nat.add-mul, Nat.mul-le-mul_right, Omega.arith}
use lib.ListN.{length, take, drop, replicate, length-append, length-replicate, take-append-drop}
use lib.ListN.{replicate-append-replicate}
use lib.Seq.{take_at, drop_at, drop-drop, take-append-add, drop-append-add, take-append-le, drop-append-le}
use lib.Seq.{length-take-le}
use borrow.Author.Tests.{le-leb, lt-leb, eq-eqb, ne_eqb}
use Rattle.room.specs.Room.{put}
use Rattle.book_rules.specs.Columns.{cells_at, opened, closed}
use Rattle.book_rules.specs.History.{Held, Movement, movement, added, holding, without, counts_for, column}
use Rattle.book_rules.specs.History.{count_cells}
use Rattle.book_rules.proofs.Cells.{cells_first, cells_next}

-- row k is the place of a new identity x
pub data Place (x : ℕ) : List Movement → ℕ → Type 0 where
  last : Place x [] zero
  here : {a : Movement} {ms : List Movement} → x ≤ a.identity → Place x (a ∷ ms) zero
  there : {a : Movement} {ms : List Movement} {k : ℕ} → a.identity < x → Place x ms k
      → Place x (a ∷ ms) (suc k)

-- row k is that of the identity x
pub data Found (x : ℕ) : List Movement → ℕ → Type 0 where
  this : {a : Movement} {ms : List Movement} → a.identity ≡ x → Found x (a ∷ ms) zero
  later : {a : Movement} {ms : List Movement} {k : ℕ} → (a.identity ≡ x → ⊥) → Found x ms k
      → Found x (a ∷ ms) (suc k)

pub place_length : {x k : ℕ} {ms : List Movement} → Place x ms k → k ≤ length ms
place_length last = omega arith
place_length (here h) = omega arith
place_length (there h r) = omega (arith, place_length r)

-- What the list of movements does there

pub added_last : (m : Movement) → added m [] ≡ m ∷ []
unfolding added
added_last m = refl

pub added_here : (m a : Movement) (ms : List Movement) → m.identity ≤ a.identity
    → added m (a ∷ ms) ≡ m ∷ (a ∷ ms)
unfolding added
added_here m a ms h = rw (le-leb m.identity a.identity h) refl

pub added_there : (m a : Movement) (ms : List Movement) → a.identity < m.identity
    → added m (a ∷ ms) ≡ a ∷ added m ms
unfolding added
added_there m a ms h = rw (lt-leb m.identity a.identity h) refl

pub without_this : (x : ℕ) (a : Movement) (ms : List Movement) → a.identity ≡ x → without x (a ∷ ms) ≡ ms
unfolding without
without_this x a ms e = rw (eq-eqb a.identity x e) refl

pub without_later : (x : ℕ) (a : Movement) (ms : List Movement) → (a.identity ≡ x → ⊥)
    → without x (a ∷ ms) ≡ a ∷ without x ms
unfolding without
without_later x a ms e = rw (ne_eqb a.identity x e) refl

pub holding_this : (x : ℕ) (h : Held) (a : Movement) (ms : List Movement) → a.identity ≡ x
    → holding x h (a ∷ ms) ≡ movement a.identity a.group a.counts h ∷ ms
unfolding holding
holding_this x h a ms e = rw (eq-eqb a.identity x e) refl

pub holding_later : (x : ℕ) (h : Held) (a : Movement) (ms : List Movement) → (a.identity ≡ x → ⊥)
    → holding x h (a ∷ ms) ≡ a ∷ holding x h ms
unfolding holding
holding_later x h a ms e = rw (ne_eqb a.identity x e) refl

pub counts_this : (x : ℕ) (a : Movement) (ms : List Movement) → a.identity ≡ x → counts_for x (a ∷ ms) ≡ a.counts
unfolding counts_for
counts_this x a ms e = rw (eq-eqb a.identity x e) refl

pub counts_later : (x : ℕ) (a : Movement) (ms : List Movement) → (a.identity ≡ x → ⊥)
    → counts_for x (a ∷ ms) ≡ counts_for x ms
unfolding counts_for
counts_later x a ms e = rw (ne_eqb a.identity x e) refl

-- A column

module _ (f : Movement → List ℕ) (w : ℕ) where
  -- each movement has w values
  abbrev pub Sized : List Movement → Type 0
  Sized [] = Unit {0}
  Sized (a ∷ ms) = (length (f a) ≡ w) × Sized ms

  pub column_none : (u : ℕ) → column f w u [] ≡ replicate (u * w) 0
  unfolding column
  column_none u = refl

  pub column_cons : (u : ℕ) (a : Movement) (ms : List Movement) → column f w u (a ∷ ms) ≡ f a ++ column f w u ms
  unfolding column
  column_cons u a ms = refl

  pub length_column : (u : ℕ) (ms : List Movement) → Sized ms → length (column f w u ms) ≡ (u + length ms) * w
  unfolding column
  length_column u [] s = length-replicate (u * w) 0 ∙ ap (λ n. n * w) (omega arith)
  length_column u (a ∷ ms) s =
      let e : u + suc (length ms) ≡ suc (u + length ms) = omega arith in
      omega (
        arith,
        length-append (f a) (column f w u ms),
        s.0,
        length_column u ms s.1,
        suc-mul (u + length ms) w,
        ap (λ n. n * w) e,
      )

  -- an unused row more
  pub column-more : (u : ℕ) (ms : List Movement) → column f w (suc u) ms ≡ column f w u ms ++ replicate w 0
  unfolding column
  column-more u [] = ap (λ n. replicate n 0) (suc-mul u w) ∙ sym (replicate-append-replicate (u * w) w 0)
  column-more u (a ∷ ms) =
      ap (λ (t : List ℕ). f a ++ t) (column-more u ms) ∙ sym (append_assoc (f a) (column f w u ms) (replicate w 0))

-- where the movement of a row counts stands in that row
pub counts_at_lem : {x k : ℕ} {ms : List Movement} (p u : ℕ) → Sized count_cells p ms → Found x ms k
    → cells_at p k (column count_cells p u ms) ≡ counts_for x ms
unfolding column
counts_at_lem {x} p u s (this {a} {ms} e) =
    cells_first p (a.counts ++ column count_cells p u ms)
    ∙ take_at a.counts (column count_cells p u ms) p s.0
    ∙ sym (counts_this x a ms e)
counts_at_lem {x} p u s (later {a} {ms} {k} e r) =
    sym (cells_next p k (a.counts ++ column count_cells p u ms))
    ∙ ap (cells_at p k) (drop_at a.counts (column count_cells p u ms) p s.0)
    ∙ counts_at_lem p u s.1 r
    ∙ sym (counts_later x a ms e)

-- the values from n on are changed by r
abbrev change_at : ℕ → (List ℕ → List ℕ) → List ℕ → List ℕ
change_at n r xs = take n xs ++ r (drop n xs)

-- a change in row k + 1 is one in row k of the rows after the first
change_block : (r : List ℕ → List ℕ) (w k : ℕ) (v c : List ℕ) → length v ≡ w
    → change_at (suc k * w) r (v ++ c) ≡ v ++ change_at (k * w) r c
change_block r w k v c e =
    let q : suc k * w ≡ length v + k * w = omega (arith, suc-mul k w) in
    ap (λ n. change_at n r (v ++ c)) q
    ∙ ap (λ (t : List ℕ). t ++ r (drop (length v + k * w) (v ++ c))) (take-append-add v c (k * w))
    ∙ ap (λ (t : List ℕ). (v ++ take (k * w) c) ++ r t) (drop-append-add v c (k * w))
    ∙ append_assoc v (take (k * w) c) (r (drop (k * w) c))

change_first : (r : List ℕ → List ℕ) (w : ℕ) (c : List ℕ) → change_at (zero * w) r c ≡ r c
change_first r w c = ap (λ n. change_at n r c) (zero-mul w)

-- The three changes of a column as such a change

opened_is : (n : ℕ) (vs xs zs : List ℕ) → n ≤ length xs → length zs ≡ length vs
    → opened n vs (xs ++ zs) ≡ change_at n (λ t. vs ++ t) xs
unfolding opened
opened_is n vs xs zs h e =
    let l = length-take-le n xs h in
    let k : length (take n xs ++ (vs ++ drop n xs)) ≡ length (xs ++ zs) =
    omega (
      arith,
      length-append (take n xs) (vs ++ drop n xs),
      length-append vs (drop n xs),
      length-append (take n xs) (drop n xs),
      ap length (take-append-drop n xs),
      length-append xs zs,
    ) in
    ap (λ (t : List ℕ). take (length (xs ++ zs)) (t ++ (vs ++ drop n (xs ++ zs)))) (take-append-le n xs zs h)
    ∙ ap (λ (t : List ℕ). take (length (xs ++ zs)) (take n xs ++ (vs ++ t))) (drop-append-le n xs zs h)
    ∙ ap (take (length (xs ++ zs)))
    (ap (λ (t : List ℕ). take n xs ++ t) (sym (append_assoc vs (drop n xs) zs))
    ∙ sym (append_assoc (take n xs) (vs ++ drop n xs) zs))
    ∙ take_at (take n xs ++ (vs ++ drop n xs)) zs (length (xs ++ zs)) k

closed_is : (n w : ℕ) (xs : List ℕ) → closed n w xs ≡ change_at n (λ t. drop w t ++ replicate w 0) xs
unfolding closed
closed_is n w xs = ap (λ (t : List ℕ). take n xs ++ (t ++ replicate w 0)) (sym (drop-drop w n xs))

put_is : (n : ℕ) (vs xs : List ℕ) → put xs n vs ≡ change_at n (λ t. vs ++ drop (length vs) t) xs
unfolding put
put_is n vs xs =
    append_assoc (take n xs) vs (drop (n + length vs) xs)
    ∙ ap (λ (t : List ℕ). take n xs ++ (vs ++ t)) (sym (drop-drop (length vs) n xs))

-- A change of a column is the change of the list

module _ (f : Movement → List ℕ) (w : ℕ) where
  place-bound : {x k : ℕ} {ms : List Movement} (u : ℕ) → Sized f w ms → Place x ms k
      → k * w ≤ length (column f w u ms)
  place-bound {x} {k} {ms} u s h =
      omega (arith, length_column f w u ms s, mul-le-mul_right w (place_length h), add-mul u (length ms) w)

  put_in : (u : ℕ) (m : Movement) {k : ℕ} {ms : List Movement} → Sized f w ms → Place m.identity ms k
      → change_at (k * w) (λ t. f m ++ t) (column f w u ms) ≡ column f w u (added m ms)
  unfolding column
  put_in u m s last = change_first (λ t. f m ++ t) w (column f w u []) ∙ ap (column f w u) (sym (added_last m))
  put_in u m s (here {a} {ms} h) =
      change_first (λ t. f m ++ t) w (column f w u (a ∷ ms)) ∙ ap (column f w u) (sym (added_here m a ms h))
  put_in u m s (there {a} {ms} {k} h r) =
      change_block (λ t. f m ++ t) w k (f a) (column f w u ms) s.0
      ∙ ap (λ (t : List ℕ). f a ++ t) (put_in u m s.1 r)
      ∙ ap (column f w u) (sym (added_there m a ms h))

  -- a row goes in, and takes an unused one
  pub column_in_rule : {n k : ℕ} {ms : List Movement} (u : ℕ) (m : Movement) → n ≡ k * w → length (f m) ≡ w
      → Sized f w ms
      → Place m.identity ms k
      → opened n (f m) (column f w (suc u) ms) ≡ column f w u (added m ms)
  column_in_rule {n} {k} {ms} u m e g s h =
      ap (λ i. opened i (f m) (column f w (suc u) ms)) e
      ∙ ap (opened (k * w) (f m)) (column-more f w u ms)
      ∙ opened_is (k * w) (f m) (column f w u ms) (replicate w 0) (place-bound u s h) (length-replicate w 0 ∙ sym g)
      ∙ put_in u m s h

  cut_out : {x k : ℕ} {ms : List Movement} (u : ℕ) → Sized f w ms → Found x ms k
      → change_at (k * w) (λ t. drop w t ++ replicate w 0) (column f w u ms) ≡ column f w (suc u) (without x ms)
  unfolding column
  cut_out {x} u s (this {a} {ms} e) =
      change_first (λ t. drop w t ++ replicate w 0) w (column f w u (a ∷ ms))
      ∙ ap (λ (t : List ℕ). t ++ replicate w 0) (drop_at (f a) (column f w u ms) w s.0)
      ∙ sym (column-more f w u ms)
      ∙ ap (column f w (suc u)) (sym (without_this x a ms e))
  cut_out {x} u s (later {a} {ms} {k} e r) =
      change_block (λ t. drop w t ++ replicate w 0) w k (f a) (column f w u ms) s.0
      ∙ ap (λ (t : List ℕ). f a ++ t) (cut_out u s.1 r)
      ∙ ap (column f w (suc u)) (sym (without_later x a ms e))

  -- a row goes out, and leaves an unused one
  pub column_out : {x n k : ℕ} {ms : List Movement} (u : ℕ) → n ≡ k * w → Sized f w ms → Found x ms k
      → closed n w (column f w u ms) ≡ column f w (suc u) (without x ms)
  column_out {x} {n} {k} {ms} u e s h =
      ap (λ i. closed i w (column f w u ms)) e ∙ closed_is (k * w) w (column f w u ms) ∙ cut_out u s h

  swap_held : {x k : ℕ} {ms : List Movement} (vs : List ℕ) (u : ℕ) (h : Held) → Sized f w ms → length vs ≡ w
      → ((a : Movement) → f (movement a.identity a.group a.counts h) ≡ vs) → Found x ms k
      → change_at (k * w) (λ t. vs ++ drop (length vs) t) (column f w u ms) ≡ column f w u (holding x h ms)
  unfolding column
  swap_held {x} vs u h s l g (this {a} {ms} e) =
      change_first (λ t. vs ++ drop (length vs) t) w (column f w u (a ∷ ms))
      ∙ ap (λ (t : List ℕ). vs ++ t) (drop_at (f a) (column f w u ms) (length vs) (s.0 ∙ sym l))
      ∙ ap (λ (t : List ℕ). t ++ column f w u ms) (sym (g a))
      ∙ ap (column f w u) (sym (holding_this x h a ms e))
  swap_held {x} vs u h s l g (later {a} {ms} {k} e r) =
      change_block (λ t. vs ++ drop (length vs) t) w k (f a) (column f w u ms) s.0
      ∙ ap (λ (t : List ℕ). f a ++ t) (swap_held vs u h s.1 l g r)
      ∙ ap (column f w u) (sym (holding_later x h a ms e))

  -- a row's values are replaced
  pub column_held : {x n k : ℕ} {ms : List Movement} (vs : List ℕ) (u : ℕ) (h : Held) → n ≡ k * w
      → Sized f w ms
      → length vs ≡ w
      → ((a : Movement) → f (movement a.identity a.group a.counts h) ≡ vs) → Found x ms k
      → put (column f w u ms) n vs ≡ column f w u (holding x h ms)
  column_held {x} {n} {k} {ms} vs u h e s l g r =
      ap (λ i. put (column f w u ms) i vs) e ∙ put_is (k * w) vs (column f w u ms) ∙ swap_held vs u h s l g r

  -- in a column that holds no levels nothing changes
  pub column_kept : {x k : ℕ} {ms : List Movement} (u : ℕ) (h : Held)
      → ((a : Movement) → f (movement a.identity a.group a.counts h) ≡ f a) → Found x ms k
      → column f w u ms ≡ column f w u (holding x h ms)
  unfolding column
  column_kept {x} u h g (this {a} {ms} e) =
      ap (λ (t : List ℕ). t ++ column f w u ms) (sym (g a)) ∙ ap (column f w u) (sym (holding_this x h a ms e))
  column_kept {x} u h g (later {a} {ms} {k} e r) =
      ap (λ (t : List ℕ). f a ++ t) (column_kept u h g r) ∙ ap (column f w u) (sym (holding_later x h a ms e))
