-- Laws for the binary search of a place: identities rise, so a row that the place is not after has the place at or
-- before it. Assumes nothing.
use mathlib.Core.Path.{◌≡◌, refl, sym, ap, ◌∙◌}
use mathlib.Core.Bool.{Bool, true, false, cond, not, ◌&&◌, ◌||◌, true≢false, or-true}
use mathlib.Core.List.{List, [], ◌∷◌}
use Prim.Native.Nat.{ℕ, zero, suc, ◌+◌, ◌≤◌, ◌<◌}
use native.Mathlib.{Nat.le_of_suc-le-suc, Nat.not-suc-le-zero, Nat.not-le_of_lt, Omega.arith}
use lib.{ListN.length, ListN.get_or, Dec.eqb, Dec.leb, Dec.ltb}
use borrow.Author.Tests.{ltb-true, leb-true, leb-false, eqb-true, eqb-false, le-leb, lt-leb, lt-ltb, le-ltb}
use borrow.Author.Tests.{eq-eqb, ne_eqb}
use Rattle.std.specs.List.Sorted.{IsPartitionedBy, IsPartitionPoint}
use Rattle.std.proofs.lemmas.Bool.{not-false, not-true}
use Rattle.std.proofs.lemmas.List.{get_or_default}
use Rattle.refusal.specs.Range.{all_within}
use Rattle.refusal.proofs.Laws.{and_left, and_right}
use Rattle.book_rules.specs.Columns.{first_at, index_of, place_of, stands, rising, followed, follows}

-- a row of identity y is unused or not lower than x
abbrev pub reached : ℕ → ℕ → Bool
reached x y = eqb y 0 || leb x y

-- Where a first value is

-- a value that passes is not before the first
pub first_before : (f : ℕ → Bool) (xs : List ℕ) (i : ℕ) → i < length xs → f (get_or xs i 0) ≡ true
    → first_at f xs ≤ i
unfolding first_at
first_before f [] i h e = absurd (not-suc-le-zero h)
first_before f (y ∷ ys) zero h e = rw e (omega arith)
first_before f (y ∷ ys) (suc i) h e = by (f y) (first_before f ys i (le_of_suc-le-suc h) e)
  where
    by : (t : Bool) → first_at f ys ≤ i → cond t 0 (suc (first_at f ys)) ≤ suc i
    by true r = omega arith
    by false r = omega arith

-- the first value passes
pub first_passes : (f : ℕ → Bool) (xs : List ℕ) → first_at f xs < length xs
    → f (get_or xs (first_at f xs) 0) ≡ true
unfolding first_at
first_passes f [] h = absurd (not-suc-le-zero h)
first_passes f (y ∷ ys) h = by (f y) refl h (first_passes f ys)
  where
    by : (t : Bool) → f y ≡ t → cond t 0 (suc (first_at f ys)) < suc (length ys)
        → (first_at f ys < length ys → f (get_or ys (first_at f ys) 0) ≡ true)
        → f (get_or (y ∷ ys) (cond t 0 (suc (first_at f ys))) 0) ≡ true
    by true e h r = e
    by false e h r = r (omega arith)

-- where one test passes only if another does, the other passes no later
pub first_earlier : (f g : ℕ → Bool) → ((y : ℕ) → g y ≡ true → f y ≡ true) → (xs : List ℕ)
    → first_at f xs ≤ first_at g xs
unfolding first_at
first_earlier f g i [] = omega arith
first_earlier f g i (y ∷ ys) = by (f y) (g y) refl refl (first_earlier f g i ys)
  where
    by : (a b : Bool) → f y ≡ a → g y ≡ b → first_at f ys ≤ first_at g ys
        → cond a 0 (suc (first_at f ys)) ≤ cond b 0 (suc (first_at g ys))
    by true b e k ih = omega arith
    by false false e k ih = omega arith
    by false true e k ih = let z : ◌≡◌ {A = Bool} true false = sym (i y k) ∙ e in absurd (true≢false z)

pub first_within_lem : (f : ℕ → Bool) (xs : List ℕ) → first_at f xs ≤ length xs
unfolding first_at
first_within_lem f [] = omega arith
first_within_lem f (y ∷ ys) = by (f y) (first_within_lem f ys)
  where
    by : (t : Bool) → first_at f ys ≤ length ys → cond t 0 (suc (first_at f ys)) ≤ suc (length ys)
    by true r = omega arith
    by false r = omega arith

-- Rising identities

reached_next : (x y z : ℕ) → follows y z ≡ true → reached x y ≡ true → reached x z ≡ true
unfolding follows
reached_next x y z f e = by (eqb z 0) refl f
  where
    low : (t : Bool) → eqb y 0 ≡ t → (t || leb x y) ≡ true → 0 < y → x ≤ y
    low true a b h = absurd (omega (arith, eqb-true y 0 a))
    low false a b h = leb-true x y b

    by : (t : Bool) → eqb z 0 ≡ t → (t || (ltb 0 y && ltb y z)) ≡ true → (t || leb x z) ≡ true
    by true a b = refl
    by false a b =
        let p = ltb-true 0 y (and_left (ltb 0 y) (ltb y z) b) in
        let q = ltb-true y z (and_right (ltb 0 y) (ltb y z) b) in
        le-leb x z (omega (arith, low (eqb y 0) refl e p))

-- once reached, x is reached at every later row
pub reached_on : (x y : ℕ) (ys : List ℕ) (i : ℕ) → rising (y ∷ ys) ≡ true → reached x y ≡ true
    → i ≤ length ys
    → reached x (get_or (y ∷ ys) i 0) ≡ true
unfolding rising followed
reached_on x y ys zero r e h = e
reached_on x y [] (suc i) r e h = absurd (not-suc-le-zero h)
reached_on x y (z ∷ zs) (suc i) r e h =
    reached_on x z zs i (and_right (follows y z) (rising (z ∷ zs)) r)
    (reached_next x y z (and_left (follows y z) (rising (z ∷ zs)) r) e) (le_of_suc-le-suc h)

-- a row at which x is not reached comes before the place of x
pub place_after : (x : ℕ) (xs : List ℕ) (i : ℕ) → rising xs ≡ true → i < length xs
    → reached x (get_or xs i 0) ≡ false
    → i < place_of x xs
unfolding place_of first_at rising
place_after x [] i r h e = absurd (not-suc-le-zero h)
place_after x (y ∷ ys) i r h e = by (reached x y) refl i h e (place_after x ys)
  where
    by : (t : Bool) → reached x y ≡ t → (i : ℕ) → i < suc (length ys)
        → reached x (get_or (y ∷ ys) i 0) ≡ false
        → ((i : ℕ) → rising ys ≡ true → i < length ys → reached x (get_or ys i 0) ≡ false
        → i < first_at (reached x) ys)
        → i < cond t 0 (suc (first_at (reached x) ys))
    by true k i h e ih = absurd (true≢false (sym (reached_on x y ys i r k (le_of_suc-le-suc h)) ∙ e))
    by false k zero h e ih = omega arith
    by false k (suc i) h e ih = omega (arith, ih i (and_right (followed y ys) (rising ys) r) (le_of_suc-le-suc h) e)

-- and one at which it is reached does not
pub place_before : (x : ℕ) (xs : List ℕ) (i : ℕ) → i < length xs → reached x (get_or xs i 0) ≡ true
    → place_of x xs ≤ i
unfolding place_of
place_before x xs i h e = first_before (reached x) xs i h e

pub place-within : (x : ℕ) (xs : List ℕ) → place_of x xs ≤ length xs
unfolding place_of
place-within x xs = first_within_lem (reached x) xs

pub index_within : (x : ℕ) (xs : List ℕ) → index_of x xs ≤ length xs
unfolding index_of
index_within x xs = first_within_lem (λ y. eqb y x) xs

-- so rows that are not reached come first
pub place_parts : (x : ℕ) (xs : List ℕ) → rising xs ≡ true → IsPartitionedBy (λ y. not (reached x y)) xs
place_parts x xs r i j d h k e = by (reached x (get_or xs i d)) refl
  where
    by : (t : Bool) → reached x (get_or xs i d) ≡ t → not t ≡ true
    by false f = refl
    by true f =
        let low = place_before x xs i (omega arith) (rw (get_or_default xs i 0 d (omega arith)) f) in
        let high = place_after x xs j r k (rw (get_or_default xs j 0 d k) (not-true (reached x (get_or xs j d)) e)) in
        absurd (omega arith)

-- and where they end is the place
pub place_parted : (x : ℕ) (xs : List ℕ) (i : ℕ) → i ≤ length xs
    → IsPartitionPoint (λ y. not (reached x y) ≡ true) (λ y. not (reached x y) ≡ false) xs i → i ≡ place_of x xs
unfolding place_of
place_parted x xs i h p = by (leb i (place_of x xs)) refl (leb (place_of x xs) i) refl
  where
    early : place_of x xs < i → ⊥
    early l =
        let k = place_of x xs in
        true≢false (sym (first_passes (reached x) xs (omega arith))
        ∙ not-true (reached x (get_or xs k 0)) (p.0 k 0 (omega arith) l))

    late : i < place_of x xs → ⊥
    late l =
        let within = place-within x xs in
        let low = place_before x xs i (omega arith) (not-false (reached x (get_or xs i 0)) (p.1 i 0 (omega arith)
        (omega arith))) in
        not-le_of_lt l low

    by : (a : Bool) → leb i (place_of x xs) ≡ a → (b : Bool) → leb (place_of x xs) i ≡ b → i ≡ place_of x xs
    by true e true f = omega (arith, leb-true i _ e, leb-true _ i f)
    by true e false f = absurd (late (leb-false _ i f))
    by false e b f = absurd (early (leb-false i _ e))

-- the place of an identity over all others is the first unused row
pub place_last : (top : ℕ) (xs : List ℕ) → all_within top xs ≡ true → place_of (top + 1) xs ≡ index_of 0 xs
unfolding place_of index_of first_at all_within
place_last top [] e = refl
place_last top (y ∷ ys) e =
    let k : leb (top + 1) y ≡ false =
    lt-leb (top + 1) y (omega (arith, leb-true y top (and_left (leb y top) (all_within top ys) e))) in
    rw k (by (eqb y 0) (place_last top ys (and_right (leb y top) (all_within top ys) e)))
  where
    by : (t : Bool) → first_at (reached (top + 1)) ys ≡ first_at (λ z. eqb z 0) ys
        → cond (t || false) 0 (suc (first_at (reached (top + 1)) ys)) ≡ cond t 0 (suc (first_at (λ z. eqb z 0) ys))
    by true r = refl
    by false r = ap suc r

-- Where an identity stands

-- a new row's place is a row, where one is unused
pub place_below : (x : ℕ) (xs : List ℕ) → place_of x xs ≤ index_of 0 xs
unfolding place_of index_of
place_below x xs = first_earlier (reached x) (λ y. eqb y 0) (λ y h. simp h) xs

-- the place of x comes no later than x itself
pub place_index≤ : (x : ℕ) (xs : List ℕ) → place_of x xs ≤ index_of x xs
unfolding place_of index_of
place_index≤ x xs = first_earlier (reached x) (λ y. eqb y x) reaches xs
  where
    reaches : (y : ℕ) → eqb y x ≡ true → reached x y ≡ true
    reaches y e = rw (le-leb x y (omega (arith, eqb-true y x e))) (or-true (eqb y 0))

pub index_is : (x : ℕ) (xs : List ℕ) → index_of x xs < length xs → get_or xs (index_of x xs) 0 ≡ x
unfolding index_of
index_is x xs h = eqb-true (get_or xs (first_at (λ y. eqb y x) xs) 0) x (first_passes (λ y. eqb y x) xs h)

pub index_before_lem : (x : ℕ) (xs : List ℕ) (i : ℕ) → i < length xs → get_or xs i 0 ≡ x → index_of x xs ≤ i
unfolding index_of
index_before_lem x xs i h e = first_before (λ y. eqb y x) xs i h (eq-eqb (get_or xs i 0) x e)

place_reached : (x : ℕ) (xs : List ℕ) → place_of x xs < length xs → reached x (get_or xs (place_of x xs) 0) ≡ true
unfolding place_of
place_reached x xs h = first_passes (reached x) xs h

reached_over : (x y : ℕ) → reached x y ≡ true → (y ≡ x → ⊥) → reached (x + 1) y ≡ true
reached_over x y e n = by (eqb y 0) refl e
  where
    by : (t : Bool) → eqb y 0 ≡ t → (t || leb x y) ≡ true → (t || leb (x + 1) y) ≡ true
    by true a b = refl
    by false a b = le-leb (x + 1) y (omega (arith, leb-true x y b, n))

not_reached : (x : ℕ) → 1 ≤ x → reached (x + 1) x ≡ false
not_reached x l = rw (ne_eqb x 0 (omega arith), lt-leb (x + 1) x (omega arith)) refl

-- an identity that stands is at its place: were its place earlier, that row would be unused or higher, and so every
-- later one
pub place_index : (x : ℕ) (xs : List ℕ) → 1 ≤ x → rising xs ≡ true → index_of x xs < length xs
    → index_of x xs ≡ place_of x xs
place_index x xs l r h = by (leb (index_of x xs) (place_of x xs)) refl
  where
    earlier : place_of x xs < index_of x xs → ⊥
    earlier k =
        let over = reached_over x (get_or xs (place_of x xs) 0) (place_reached x xs (omega arith))
        (λ e. omega (arith, index_before_lem x xs (place_of x xs) (omega arith) e)) in
        let low = place_before (x + 1) xs (place_of x xs) (omega arith) over in
        let high = place_after (x + 1) xs (index_of x xs) r h (rw (index_is x xs h) (not_reached x l)) in
        omega arith

    by : (t : Bool) → leb (index_of x xs) (place_of x xs) ≡ t → index_of x xs ≡ place_of x xs
    by true e = omega (arith, leb-true (index_of x xs) (place_of x xs) e, place_index≤ x xs)
    by false e = absurd (earlier (leb-false (index_of x xs) (place_of x xs) e))

-- x stands exactly if its place holds it
pub stands_here : (x : ℕ) (xs : List ℕ) (at : ℕ) → 1 ≤ x → rising xs ≡ true → at ≡ place_of x xs
    → at < length xs
    → eqb (get_or xs at 0) x ≡ stands x xs
unfolding stands
stands_here x xs at l r e h = by (eqb (get_or xs at 0) x) refl
  where
    by : (t : Bool) → eqb (get_or xs at 0) x ≡ t → t ≡ ltb (index_of x xs) (length xs)
    by true k =
        sym (lt-ltb (index_of x xs) (length xs)
        (omega (arith, index_before_lem x xs at h (eqb-true (get_or xs at 0) x k))))
    by false k = not (ltb (index_of x xs) (length xs)) refl
      where
        not : (s : Bool) → ltb (index_of x xs) (length xs) ≡ s → false ≡ s
        not false z = refl
        not true z =
            let i = ltb-true (index_of x xs) (length xs) z in
            let same : index_of x xs ≡ at = place_index x xs l r i ∙ sym e in
            absurd (eqb-false (get_or xs at 0) x k (ap (λ n. get_or xs n 0) (sym same) ∙ index_is x xs i))

pub stands_past : (x : ℕ) (xs : List ℕ) (at : ℕ) → at ≡ place_of x xs
    → length xs ≤ at → stands x xs ≡ false
unfolding stands
stands_past x xs at e h = le-ltb (index_of x xs) (length xs) (omega (arith, place_index≤ x xs))

pub stands_index : (x : ℕ) (xs : List ℕ) → stands x xs ≡ true → index_of x xs < length xs
unfolding stands
stands_index x xs e = ltb-true (index_of x xs) (length xs) e
