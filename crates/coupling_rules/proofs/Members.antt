-- Members of a list of places. Assumes nothing.
use mathlib.Core.{Path.◌≡◌, Path.refl, Path.sym, Path.◌∙◌, Bool.Bool, Bool.true, Bool.false, Bool.cond, List.List}
use mathlib.Core.{List.[], List.◌∷◌, List.◌++◌, Logic.◌⊎◌, Logic.inl, Logic.inr, Logic.⊎_elim}
use Prim.Native.Nat.{ℕ, zero, suc, ◌≤◌, ◌<◌}
use native.Mathlib.Omega.{arith}
use lib.{Dec.eqb, Dec.ltb, ListN.length, ListN.get_or}
use borrow.Author.Tests.{eqb-true, eqb-false, ltb-true, ltb-false}
use Rattle.coupling_rules.specs.InnerSides.{In}
use Rattle.coupling_rules.specs.Rule.{goes_with, without, after}

-- Numbers

is_by : (a b : ℕ) (t : Bool) → eqb a b ≡ t → (a ≡ b) ⊎ (a ≡ b → ⊥)
is_by a b true e = inl (eqb-true a b e)
is_by a b false e = inr (eqb-false a b e)

pub is_or_not : (a b : ℕ) → (a ≡ b) ⊎ (a ≡ b → ⊥)
is_or_not a b = is_by a b (eqb a b) refl

lt_by : (a b : ℕ) (t : Bool) → ltb a b ≡ t → (a < b) ⊎ (b ≤ a)
lt_by a b true e = inl (ltb-true a b e)
lt_by a b false e = inr (ltb-false a b e)

pub lt_or_not : (a b : ℕ) → (a < b) ⊎ (b ≤ a)
lt_or_not a b = lt_by a b (ltb a b) refl

-- one is below the other, or they are equal
pub three_ways : (a b : ℕ) → (a < b) ⊎ ((a ≡ b) ⊎ (b < a))
three_ways a b =
    ⊎_elim (λ h. inl h) (λ h. inr (⊎_elim (λ e. inl e) (λ n. inr (omega arith)) (is_or_not a b)))
    (lt_or_not a b)

pub lt_or_is : (a b : ℕ) → a ≤ b → (a < b) ⊎ (a ≡ b)
lt_or_is a b h = ⊎_elim (λ e. inr e) (λ n. inl (omega arith)) (is_or_not a b)

pub zero_or : (n : ℕ) → (n ≡ 0) ⊎ (0 < n)
zero_or zero = inl refl
zero_or (suc n) = inr (omega arith)

-- Lists

pub in_append : (x : ℕ) (s t : List ℕ) → In x (s ++ t) → In x s ⊎ In x t
in_append x [] t h = inr h
in_append x (y ∷ s) t (inl e) = inl (inl e)
in_append x (y ∷ s) t (inr h) = ⊎_elim (λ a. inl (inr a)) (λ b. inr b) (in_append x s t h)

pub in_left : (x : ℕ) (s t : List ℕ) → In x s → In x (s ++ t)
in_left x [] t h = absurd h
in_left x (y ∷ s) t (inl e) = inl e
in_left x (y ∷ s) t (inr h) = inr (in_left x s t h)

pub in_right : (x : ℕ) (s t : List ℕ) → In x t → In x (s ++ t)
in_right x [] t h = h
in_right x (y ∷ s) t h = inr (in_right x s t h)

pub at_in : (l : List ℕ) (n : ℕ) → n < length l → In (get_or l n 0) l
at_in [] n h = absurd (omega arith)
at_in (x ∷ l) zero h = inl refl
at_in (x ∷ l) (suc n) h = inr (at_in l n (omega arith))

-- What is left without x

pub goes_true : (j k : ℕ) → goes_with j k ≡ true → j ≡ k
goes_true j k e = search (eqb-true, arith)

goes_false : (j k : ℕ) → goes_with j k ≡ false → j ≡ k → ⊥
goes_false j k e q = omega (arith, eqb-false)

without_by : (x y j : ℕ) (l : List ℕ) (b : Bool) → goes_with x y ≡ b
    → In j (cond b (without x l) (y ∷ without x l))
    → (In j (without x l) → In j l × (j ≡ x → ⊥))
    → In j (y ∷ l) × (j ≡ x → ⊥)
without_by x y j l true e h more = let m = more h in (inr m.0, m.1)
without_by x y j l false e (inl p) more = (inl p, λ q. goes_false x y e (sym q ∙ p))
without_by x y j l false e (inr h) more = let m = more h in (inr m.0, m.1)

pub without_in : (x j : ℕ) (l : List ℕ) → In j (without x l) → In j l × (j ≡ x → ⊥)
unfolding without
without_in x j [] h = absurd h
without_in x j (y ∷ l) h = without_by x y j l (goes_with x y) refl h (without_in x j l)

in_by : (x y j : ℕ) (l : List ℕ) (b : Bool) → goes_with x y ≡ b → (j ≡ x → ⊥) → In j (y ∷ l)
    → (In j l → In j (without x l)) → In j (cond b (without x l) (y ∷ without x l))
in_by x y j l true e n (inl p) more = absurd (n (p ∙ sym (goes_true x y e)))
in_by x y j l true e n (inr h) more = more h
in_by x y j l false e n (inl p) more = inl p
in_by x y j l false e n (inr h) more = inr (more h)

pub in_without : (x j : ℕ) (l : List ℕ) → (j ≡ x → ⊥) → In j l → In j (without x l)
unfolding without
in_without x j [] n h = h
in_without x j (y ∷ l) n h = in_by x y j l (goes_with x y) refl n h (in_without x j l n)

-- once the track of an answer is taken
pub after_in : (a j : ℕ) (free : List ℕ) → In j (after a free) → In j free × (a ≡ suc j → ⊥)
unfolding after
after_in zero j free m = (m, λ e. omega arith)
after_in (suc a) j free m = let w = without_in a j free m in (w.0, λ e. w.1 (omega arith))

pub in_after : (a j : ℕ) (free : List ℕ) → (a ≡ suc j → ⊥) → In j free → In j (after a free)
unfolding after
in_after zero j free n m = m
in_after (suc a) j free n m = in_without a j free (λ e. n (omega arith)) m
