-- Lists of contours: their edges, how often one occurs, and how many there are. Assumes nothing.
use mathlib.Core.Path.{◌≡◌, refl, sym, ap, ◌∙◌}
use mathlib.Core.Bool.{Bool, true, false, ◌&&◌, cond}
use mathlib.Core.List.{List, [], ◌∷◌, ◌++◌, append_assoc, append-nil}
use Prim.Native.Nat.{ℕ, zero, suc, ◌+◌, ◌≤◌, ◌<◌}
use native.Mathlib.Omega.{arith}
use borrow.Author.Tests.{lt-ltb, le-ltb, ltb-true, ltb-false, eqb-true, eqb-false, eq-eqb}
use lib.{Dec.ltb, Dec.eqb, ListN.length, ListN.length-append}
use Rattle.contour_rules.specs.{Picture.Picture, Crossings.crossed_at}
use Rattle.contour_rules.specs.Contours.{Contour, bit, edges_of, counts_of, closed_of}
use Rattle.contour_rules.specs.Once.{occurs, Sound, AllSound, steps, steps_of, opens, sum_to, crossings}

-- ---- one contour more

pub edges_append : (cs : List Contour) (c : Contour) → edges_of (cs ++ (c ∷ [])) ≡ edges_of cs ++ c.edges
unfolding edges_of
edges_append [] c = append-nil c.edges
edges_append (x ∷ cs) c = ap (λ (l : List ℕ). x.edges ++ l) (edges_append cs c)
    ∙ sym (append_assoc x.edges (edges_of cs) c.edges)

pub counts_append : (cs : List Contour) (c : Contour)
    → counts_of (cs ++ (c ∷ [])) ≡ counts_of cs ++ (length c.edges ∷ [])
unfolding counts_of
counts_append [] c = refl
counts_append (x ∷ cs) c = ap (λ (l : List ℕ). length x.edges ∷ l) (counts_append cs c)

pub closed_append : (cs : List Contour) (c : Contour)
    → closed_of (cs ++ (c ∷ [])) ≡ closed_of cs ++ (bit c.closes ∷ [])
unfolding closed_of
closed_append [] c = refl
closed_append (x ∷ cs) c = ap (λ (l : List ℕ). bit x.closes ∷ l) (closed_append cs c)

pub length_counts : (cs : List Contour) → length (counts_of cs) ≡ length cs
unfolding counts_of
length_counts [] = refl
length_counts (c ∷ cs) = ap suc (length_counts cs)

pub length_closed : (cs : List Contour) → length (closed_of cs) ≡ length cs
unfolding closed_of
length_closed [] = refl
length_closed (c ∷ cs) = ap suc (length_closed cs)

pub all_append : (g : Picture) (cs : List Contour) (c : Contour) → AllSound g cs
    → Sound g c.closes c.edges → AllSound g (cs ++ (c ∷ []))
all_append g [] c p q = (q, tt)
all_append g (x ∷ cs) c p q = (p.0, all_append g cs c p.1 q)

pub occurs_append : (n : ℕ) (ms ns : List ℕ) → occurs n (ms ++ ns) ≡ occurs n ms + occurs n ns
unfolding occurs
occurs_append n [] ns = omega arith
occurs_append n (m ∷ ms) ns = rw (occurs_append n ms ns) (omega arith)

-- ---- steps

steps_of_lem : (closes : Bool) (n : ℕ) (ns : List ℕ) → steps closes (n ∷ ns) + cond closes 0 1 ≡ suc (length ns)
unfolding steps
steps_of_lem true n [] = omega arith
steps_of_lem false n [] = omega arith
steps_of_lem closes n (m ∷ ms) = omega (arith, steps_of_lem closes m ms)

-- a contour has an edge, and makes as many steps as it has edges, less one where it is open
steps_one : (g : Picture) (c : Contour) → Sound g c.closes c.edges
    → (steps c.closes c.edges + cond c.closes 0 1 ≡ length c.edges) × (0 < length c.edges)
steps_one g c s = go c.closes c.edges s
  where
    go : (closes : Bool) (ns : List ℕ) → Sound g closes ns
        → (steps closes ns + cond closes 0 1 ≡ length ns) × (0 < length ns)
    go closes [] s = absurd s
    go true (n ∷ ns) s = (steps_of_lem true n ns, omega arith)
    go false (n ∷ ns) s = (steps_of_lem false n ns, omega arith)

pub all_steps : (g : Picture) (cs : List Contour) → AllSound g cs → steps_of cs + opens cs ≡ length (edges_of cs)
unfolding edges_of steps_of opens
all_steps g [] a = refl
all_steps g (c ∷ cs) a = rw (length-append c.edges (edges_of cs))
    (omega (arith, all_steps g cs a.1, (steps_one g c a.0).0))

-- there are no more contours than edges on them
pub fewer : (g : Picture) (cs : List Contour) → AllSound g cs → length cs ≤ length (edges_of cs)
unfolding edges_of
fewer g [] a = omega arith
fewer g (c ∷ cs) a = rw (length-append c.edges (edges_of cs))
    (omega (arith, fewer g cs a.1, (steps_one g c a.0).1))

-- ---- counting

pub sum_same : (f h : ℕ → ℕ) (n : ℕ) → ((k : ℕ) → k < n → f k ≡ h k) → sum_to f n ≡ sum_to h n
unfolding sum_to
sum_same f h zero e = refl
sum_same f h (suc n) e = omega (arith, sum_same f h n (λ k l. e k (omega arith)), e n (omega arith))

pub sum_add : (f h : ℕ → ℕ) (n : ℕ) → sum_to (λ k. f k + h k) n ≡ sum_to f n + sum_to h n
unfolding sum_to
sum_add f h zero = refl
sum_add f h (suc n) = omega (arith, sum_add f h n)

sum_none : (n : ℕ) → sum_to (λ _. 0) n ≡ 0
unfolding sum_to
sum_none zero = refl
sum_none (suc n) = omega (arith, sum_none n)

-- one number counts once if it is below n
sum_one : (m n : ℕ) → sum_to (λ k. bit (eqb k m)) n ≡ bit (ltb m n)
unfolding sum_to
sum_one m zero = rw (le-ltb m 0 (omega arith))
sum_one m (suc n) = go (ltb m n) (eqb n m) refl refl (sum_one m n)
  where
    go : (a b : Bool) → ltb m n ≡ a → eqb n m ≡ b → sum_to (λ k. bit (eqb k m)) n ≡ bit (ltb m n)
        → sum_to (λ k. bit (eqb k m)) n + bit (eqb n m) ≡ bit (ltb m (suc n))
    go true true p q e = absurd (omega (arith, ltb-true m n p, eqb-true n m q))
    go true false p q e = rw (e, p, q, lt-ltb m (suc n) (omega (arith, ltb-true m n p)))
    go false true p q e = rw (e, p, q, lt-ltb m (suc n) (omega (arith, eqb-true n m q)))
    go false false p q e = rw (e, p, q, le-ltb m (suc n) (omega (arith, ltb-false m n p, eqb-false n m q)))

-- a list of numbers below n has as many as occur
sum_occurs : (n : ℕ) (ms : List ℕ) → ((k : ℕ) → n ≤ k → occurs k ms ≡ 0)
    → sum_to (λ k. occurs k ms) n ≡ length ms
unfolding occurs
sum_occurs n [] h = sum_none n
sum_occurs n (m ∷ ms) h =
    let below : ltb m n ≡ true = go (ltb m n) refl in
    let rest = sum_occurs n ms (λ k l. omega (arith, h k l)) in
    sum_add (λ k. bit (eqb k m)) (λ k. occurs k ms) n ∙ omega (arith, rest, sum_one m n ∙ ap bit below)
  where
    go : (b : Bool) → ltb m n ≡ b → ltb m n ≡ true
    go true e = e
    go false e = absurd (omega (arith, h m (ltb-false m n e), ap bit (eq-eqb m m refl)))

pub crossings_sum : (g : Picture) (n : ℕ) → crossings g n ≡ sum_to (λ k. bit (crossed_at g k)) n
unfolding crossings sum_to
crossings_sum g zero = refl
crossings_sum g (suc n) = ap (λ (k : ℕ). k + bit (crossed_at g n)) (crossings_sum g n)

pub crossings_le : (g : Picture) (n : ℕ) → crossings g n ≤ n
unfolding crossings
crossings_le g zero = omega arith
crossings_le g (suc n) = go (crossed_at g n) (crossings_le g n)
  where
    go : (b : Bool) → crossings g n ≤ n → crossings g n + bit b ≤ suc n
    go true h = omega arith
    go false h = omega arith

-- a list that has each crossed edge below n once, and nothing else, is as long as these are many
pub each_listed : (g : Picture) (n : ℕ) (es : List ℕ)
    → ((k : ℕ) → occurs k es ≡ bit (ltb k n && crossed_at g k)) → length es ≡ crossings g n
each_listed g n es once =
    let none : (k : ℕ) → n ≤ k → occurs k es ≡ 0 = λ k l. once k
    ∙ ap (λ (b : Bool). bit (b && crossed_at g k)) (le-ltb k n l) in
    let each : (k : ℕ) → k < n → occurs k es ≡ bit (crossed_at g k) = λ k l. once k
    ∙ ap (λ (b : Bool). bit (b && crossed_at g k)) (lt-ltb k n l) in
    sym (sum_occurs n es none) ∙ sum_same (λ k. occurs k es) (λ k. bit (crossed_at g k)) n each
    ∙ sym (crossings_sum g n)
