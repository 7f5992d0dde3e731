-- Laws of sums over numbers. Assumes nothing.
use mathlib.Core.{Path.◌≡◌, Path.refl, Path.sym, Path.ap, Path.◌∙◌, Bool.Bool, Bool.true, Bool.false, Bool.cond}
use Prim.Native.Nat.{ℕ, zero, suc, ◌+◌, ◌*◌, ◌≤◌, ◌<◌}
use native.Mathlib.{Nat.mul-add, Nat.mul-zero, Nat.zero-add, Nat.suc-add, Omega.arith}
use lib.Dec.{eqb, ltb}
use borrow.Author.Tests.{eqb-true, eqb-false, ltb-true, ltb-false, lt-ltb, le-ltb}
use Rattle.load_rules.specs.Factors.{sum_to, SumsEach}

pub sum_add : (f g : ℕ → ℕ) (n : ℕ) → sum_to (λ i. f i + g i) n ≡ sum_to f n + sum_to g n
unfolding sum_to
sum_add f g zero = refl
sum_add f g (suc n) = omega (arith, sum_add f g n)

pub sum_zero : (n : ℕ) → sum_to (λ i. 0) n ≡ 0
unfolding sum_to
sum_zero zero = refl
sum_zero (suc n) = omega (arith, sum_zero n)

pub sum_ext : (f g : ℕ → ℕ) (n : ℕ) → ((i : ℕ) → i < n → f i ≡ g i) → sum_to f n ≡ sum_to g n
unfolding sum_to
sum_ext f g zero e = refl
sum_ext f g (suc n) e = omega (arith, sum_ext f g n (λ i h. e i (omega arith)), e n (omega arith))

pub sum-le : (f g : ℕ → ℕ) (n : ℕ) → ((i : ℕ) → i < n → f i ≤ g i) → sum_to f n ≤ sum_to g n
unfolding sum_to
sum-le f g zero e = omega arith
sum-le f g (suc n) e = omega (arith, sum-le f g n (λ i h. e i (omega arith)), e n (omega arith))

-- fewer summands, no larger sum
pub sum_more : (f : ℕ → ℕ) (n m : ℕ) → sum_to f n ≤ sum_to f (m + n)
unfolding sum_to
sum_more f n zero = rw zero-add (omega arith)
sum_more f n (suc m) = rw suc-add (omega (arith, sum_more f n m))

pub sum_times : (k : ℕ) (f : ℕ → ℕ) (n : ℕ) → sum_to (λ i. k * f i) n ≡ k * sum_to f n
unfolding sum_to
sum_times k f zero = sym (mul-zero k)
sum_times k f (suc n) = rw (mul-add k (sum_to f n) (f n)) (omega (arith, sum_times k f n))

-- 1 at the number h, and 0 at all others
pub sum_one : (h n : ℕ) → sum_to (λ g. cond (eqb h g) 1 0) n ≡ cond (ltb h n) 1 0
unfolding sum_to
sum_one h zero = rw (le-ltb h 0 (omega arith)) refl
sum_one h (suc n) = go (eqb h n) refl (ltb h n) refl (sum_one h n)
  where
    go : (b : Bool) → eqb h n ≡ b → (t : Bool) → ltb h n ≡ t
        → sum_to (λ g. cond (eqb h g) 1 0) n ≡ cond t 1 0
        → sum_to (λ g. cond (eqb h g) 1 0) n + cond b 1 0 ≡ cond (ltb h (suc n)) 1 0
    go true e true l i = let q = eqb-true h n e in let w = ltb-true h n l in absurd (omega arith)
    go true e false l i = let q = eqb-true h n e in rw (lt-ltb h (suc n) (omega arith)) (omega arith)
    go false e true l i = let w = ltb-true h n l in rw (lt-ltb h (suc n) (omega arith)) (omega arith)
    go false e false l i =
        let q = eqb-false h n e in
        let w = ltb-false h n l in
        rw (le-ltb h (suc n) (omega arith)) (omega arith)

-- and any number k
sum_at_lem : (k h n : ℕ) → sum_to (λ i. cond (eqb h i) k 0) n ≡ cond (ltb h n) k 0
sum_at_lem k h n =
    sum_ext _ (λ i. k * cond (eqb h i) 1 0) n (λ i l. times_one (eqb h i))
    ∙ sum_times k (λ i. cond (eqb h i) 1 0) n
    ∙ ap (λ j. k * j) (sum_one h n)
    ∙ sym (times_one (ltb h n))
  where
    times_one : (t : Bool) → cond t k 0 ≡ k * cond t 1 0
    times_one true = omega arith
    times_one false = omega arith

pub sums_each : SumsEach
sums_each =
    record {
      below = λ k h n l. sum_at_lem k h n ∙ ap (λ (t : Bool). cond t k 0) (lt-ltb h n l);
      past = λ k h n l. sum_at_lem k h n ∙ ap (λ (t : Bool). cond t k 0) (le-ltb h n l);
      both = sum_add;
    }
