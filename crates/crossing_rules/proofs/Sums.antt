-- More laws of sums over the numbers below n. Assumes nothing.
use mathlib.Core.Path.{◌≡◌, ap, ◌∙◌}
use Prim.Native.Nat.{ℕ, zero, suc, ◌+◌, ◌*◌}
use native.Mathlib.{Nat.add-zero, Nat.add-suc, Nat.zero-mul, Omega.arith}
use Rattle.contour_rules.specs.Once.{sum_to}

-- the first apart
pub sum_first : (f : ℕ → ℕ) (n : ℕ) → sum_to f (suc n) ≡ f 0 + sum_to (λ k. f (suc k)) n
unfolding sum_to
sum_first f zero = omega arith
sum_first f (suc n) = omega (arith, sum_first f n)

-- n numbers, and then m
pub sum_then : (f : ℕ → ℕ) (n m : ℕ) → sum_to f (n + m) ≡ sum_to f n + sum_to (λ k. f (n + k)) m
unfolding sum_to
sum_then f n zero = ap (sum_to f) (add-zero n) ∙ omega arith
sum_then f n (suc m) = ap (sum_to f) (add-suc n m) ∙ omega (arith, sum_then f n m)

-- n rows of m numbers
pub sum_rows : (f : ℕ → ℕ) (n m : ℕ) → sum_to f (n * m) ≡ sum_to (λ i. sum_to (λ j. f (i * m + j)) m) n
unfolding sum_to
sum_rows f zero m = ap (sum_to f) (zero-mul m)
sum_rows f (suc n) m =
    let e : suc n * m ≡ n * m + m = omega arith in
    ap (sum_to f) e ∙ sum_then f (n * m) m ∙ ap (λ (k : ℕ). k + sum_to (λ j. f (n * m + j)) m) (sum_rows f n m)
