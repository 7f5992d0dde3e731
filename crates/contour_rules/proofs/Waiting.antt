-- The waiting list, and a contour one edge at a time. Assumes nothing.
use mathlib.Core.Path.{◌≡◌, refl, sym, ap, ◌∙◌, subst}
use mathlib.Core.Bool.{Bool, true, false, ◌&&◌, cond, true≢false}
use mathlib.Core.{Logic.◌⊎◌, Logic.inl, Logic.inr, Logic.⊎_elim, List.List, List.[], List.◌∷◌, List.◌++◌}
use Prim.Native.Nat.{ℕ, zero, suc, ◌+◌, ◌≤◌, ◌<◌}
use native.Mathlib.Omega.{arith}
use borrow.Author.Tests.{ltb-true, ltb-false, eqb-true, eqb-false}
use lib.{Dec.ltb, Dec.eqb, ListN.length, ListN.set, ListN.length-set, ListN.length-append, ListN.get_or-append}
use lib.Seq.{get_or-set_other, get_or_at}
use Rattle.contour_rules.specs.{Picture.Picture, Crossings.crossed_at, Crossings.next_at}
use Rattle.contour_rules.specs.Contours.{bit, waits, waiting, follow, contour_from, without, crossed_to}
use Rattle.contour_rules.specs.Once.{occurs, Each}

-- a is b, or not
pub is_or_not : (a b : ℕ) → (a ≡ b) ⊎ (a ≡ b → ⊥)
is_or_not a b = go (eqb a b) refl
  where
    go : (t : Bool) → eqb a b ≡ t → (a ≡ b) ⊎ (a ≡ b → ⊥)
    go true h = inl (eqb-true a b h)
    go false h = inr (eqb-false a b h)

pub clash : {X : Type 0} {b : Bool} → b ≡ true → b ≡ false → X
clash p q = absurd (true≢false (sym p ∙ q))

-- ---- one edge

-- an edge that waits is one that the list has
pub waits_lt : (list : List ℕ) (n : ℕ) → waits list n ≡ true → n < length list
waits_lt [] n h = absurd (true≢false (sym h))
waits_lt (m ∷ list) zero h = omega arith
waits_lt (m ∷ list) (suc n) h = omega (arith, waits_lt list n h)

pub waits_past : (list : List ℕ) (n : ℕ) → length list ≤ n → waits list n ≡ false
waits_past [] n h = refl
waits_past (m ∷ list) zero h = absurd (omega arith)
waits_past (m ∷ list) (suc n) h = waits_past list n (omega arith)

-- an edge that was taken no longer waits, and the others are as they were
pub waits_set_same : (list : List ℕ) (n : ℕ) → waits (set list n 0) n ≡ false
waits_set_same [] n = refl
waits_set_same (m ∷ list) zero = refl
waits_set_same (m ∷ list) (suc n) = waits_set_same list n

pub waits_set_other : (list : List ℕ) (n m : ℕ) → (m ≡ n → ⊥) → waits (set list n 0) m ≡ waits list m
waits_set_other list n m h = ap (λ (x : ℕ). eqb x 1) (get_or-set_other list n m 0 0 h)

-- what waits no longer stays so
pub stays : (list : List ℕ) (n m : ℕ) → waits list m ≡ false → waits (set list n 0) m ≡ false
stays list n m h = ⊎_elim (λ e. rw e (waits_set_same list n)) (λ e. waits_set_other list n m e
    ∙ h) (is_or_not m n)

pub waited : (list : List ℕ) (n m : ℕ) → waits (set list n 0) m ≡ true → waits list m ≡ true
waited list n m h = ⊎_elim (λ e. clash h (rw e (waits_set_same list n))) (λ e. sym (waits_set_other list n m e)
    ∙ h) (is_or_not m n)

pub stays_out : (list ns : List ℕ) (m : ℕ) → waits list m ≡ false → waits (without list ns) m ≡ false
unfolding without
stays_out list [] m h = h
stays_out list (n ∷ ns) m h = stays_out (set list n 0) ns m (stays list n m h)

pub length_without : (list ns : List ℕ) → length (without list ns) ≡ length list
unfolding without
length_without list [] = refl
length_without list (n ∷ ns) = length_without (set list n 0) ns ∙ length-set list n 0

-- ---- how many wait

pub waiting-set : (list : List ℕ) (n : ℕ) → waits list n ≡ true
    → waiting list ≡ suc (waiting (set list n 0))
unfolding waiting
waiting-set [] n h = absurd (true≢false (sym h))
waiting-set (m ∷ list) zero h = rw h (omega arith)
waiting-set (m ∷ list) (suc n) h = rw (waiting-set list n h) (omega arith)

pub waiting_le : (list : List ℕ) → waiting list ≤ length list
unfolding waiting
waiting_le [] = omega arith
waiting_le (m ∷ list) = go (eqb m 1) (waiting_le list)
  where
    go : (b : Bool) → waiting list ≤ length list → bit b + waiting list ≤ suc (length list)
    go true h = omega arith
    go false h = omega arith

-- ---- a contour

-- from an edge that waits a contour goes on with the edge that it leads to, and from any other there is none
pub follow_on : (g : Picture) (list : List ℕ) (n : ℕ) → waits list n ≡ true
    → contour_from g list n ≡ n ∷ contour_from g (set list n 0) (next_at g n)
unfolding follow
follow_on g list n h = rw (waiting-set list n h, h) refl

pub follow_stop : (next : ℕ → ℕ) (most : ℕ) (list : List ℕ) (n : ℕ) → waits list n ≡ false
    → follow next most list n ≡ []
unfolding follow
follow_stop next zero list n h = refl
follow_stop next (suc most) list n h = rw h

-- what holds of all edges that wait holds of a contour's
pub follow_each : (P : ℕ → Type 0) (next : ℕ → ℕ) (most : ℕ) (list : List ℕ) (n : ℕ)
    → ((m : ℕ) → waits list m ≡ true → P m) → Each P (follow next most list n)
unfolding follow
follow_each P next zero list n p = tt
follow_each P next (suc most) list n p =
    go (waits list n) refl (λ h. follow_each P next most (set list n 0) (next n) (λ m k. p m (waited list n m k)))
  where
    go : (b : Bool) → waits list n ≡ b → (b ≡ true → Each P (follow next most (set list n 0) (next n)))
        → Each P (cond b (n ∷ follow next most (set list n 0) (next n)) [])
    go true h i = (p n h, i refl)
    go false h i = tt

-- a contour's edges no longer wait, and no others
pub waiting-without : (next : ℕ → ℕ) (most : ℕ) (list : List ℕ) (n : ℕ)
    → waiting (without list (follow next most list n)) + length (follow next most list n) ≡ waiting list
unfolding follow without
waiting-without next zero list n = omega arith
waiting-without next (suc most) list n = go (waits list n) refl (waiting-without next most (set list n 0) (next n))
  where
    rest : List ℕ
    rest = follow next most (set list n 0) (next n)

    go : (b : Bool) → waits list n ≡ b
        → waiting (without (set list n 0) rest) + length rest ≡ waiting (set list n 0)
        → waiting (without list (cond b (n ∷ rest) [])) + length (cond b (n ∷ rest) []) ≡ waiting list
    go true h i = omega (arith, waiting-set list n h)
    go false h i = omega arith

-- each edge is listed as often as it waited before and does not after: so at most once
one_more : (list : List ℕ) (k n : ℕ) → waits list k ≡ true
    → bit (eqb n k) + bit (waits (set list k 0) n) ≡ bit (waits list n)
one_more list k n h = go (eqb n k) refl
  where
    go : (b : Bool) → eqb n k ≡ b → bit b + bit (waits (set list k 0) n) ≡ bit (waits list n)
    go true e = rw (eqb-true n k e, waits_set_same list k, h)
    go false e = rw (waits_set_other list k n (eqb-false n k e)) (omega arith)

pub follow-occurs : (next : ℕ → ℕ) (most : ℕ) (list : List ℕ) (k n : ℕ)
    → occurs n (follow next most list k) + bit (waits (without list (follow next most list k)) n)
    ≡ bit (waits list n)
unfolding follow without occurs
follow-occurs next zero list k n = omega arith
follow-occurs next (suc most) list k n = go (waits list k) refl (follow-occurs next most (set list k 0) (next k) n)
  where
    rest : List ℕ
    rest = follow next most (set list k 0) (next k)

    go : (b : Bool) → waits list k ≡ b
        → occurs n rest + bit (waits (without (set list k 0) rest) n) ≡ bit (waits (set list k 0) n)
        → occurs n (cond b (k ∷ rest) []) + bit (waits (without list (cond b (k ∷ rest) [])) n)
        ≡ bit (waits list n)
    go true h i = omega (arith, one_more list k n h)
    go false h i = omega arith

-- ---- at first the crossed edges wait

pub length_crossed : (g : Picture) (n : ℕ) → length (crossed_to g n) ≡ n
unfolding crossed_to
length_crossed g zero = refl
length_crossed g (suc n) = length-append (crossed_to g n) _ ∙ omega (arith, length_crossed g n)

pub bit_one : (b : Bool) → eqb (bit b) 1 ≡ b
bit_one true = refl
bit_one false = refl

pub crossed_waits : (g : Picture) (n m : ℕ) → m < n → waits (crossed_to g n) m ≡ crossed_at g m
unfolding crossed_to
crossed_waits g zero m h = absurd (omega arith)
crossed_waits g (suc n) m h =
    ⊎_elim
    (λ e. subst (λ (k : ℕ). waits (crossed_to g n ++ (bit (crossed_at g n) ∷ [])) k ≡ crossed_at g k) (sym e)
    (ap (λ (x : ℕ). eqb x 1) (get_or_at (crossed_to g n) (bit (crossed_at g n)) [] 0 n (length_crossed g n))
    ∙ bit_one (crossed_at g n)))
    (λ e. let l : m < n = omega arith in
    ap (λ (x : ℕ). eqb x 1) (get_or-append (crossed_to g n) _ 0 m (rw (length_crossed g n) l))
    ∙ crossed_waits g n m l)
    (is_or_not m n)

pub crossed_waits_all : (g : Picture) (n m : ℕ) → waits (crossed_to g n) m ≡ (ltb m n && crossed_at g m)
crossed_waits_all g n m = go (ltb m n) refl
  where
    go : (b : Bool) → ltb m n ≡ b → waits (crossed_to g n) m ≡ (b && crossed_at g m)
    go true h = crossed_waits g n m (ltb-true m n h)
    go false h = waits_past (crossed_to g n) m (rw (length_crossed g n) (ltb-false m n h))
