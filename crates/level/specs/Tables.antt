-- The two tables of RULES, "Energy and load", by their rules.
-- Assumes nothing.
use Rattle.std.specs.Prelude.{◌≡◌, ℕ, zero, suc, ◌+◌, ◌*◌, ◌^◌, ◌<◌, ◌≤◌, cond, List, nat_le, slice_index}

-- x is the largest whole number whose p-th power is at most v: its own is, and that of the next is not
pub record Root (p v x : ℕ) : Type 0 where
  pub low : x ^ p ≤ v
  pub high : v < suc x ^ p

-- the largest x up to n with x ^ p at most v
unfoldable pub largest_up_to : (p v n : ℕ) → ℕ
largest_up_to p v zero = zero
largest_up_to p v (suc n) = cond (nat_le (suc n ^ p) v) (suc n) (largest_up_to p v n)

-- the largest whole number whose p-th power is at most v, for p and v of at least 1
unfoldable pub largest_root : (p v : ℕ) → ℕ
largest_root p v = largest_up_to p v v

-- A(k) and B(k)
unfoldable pub table_a : ℕ → ℕ
table_a k = largest_root 1000 (10 ^ (6000 + k))

unfoldable pub table_b : ℕ → ℕ
table_b k = largest_root 2000 (10 ^ (12000 + 2 * k + 1))

-- xs holds the first n numbers of f
abbrev pub HoldsFirst : (f : ℕ → ℕ) (n : ℕ) → List ℕ → Type 0
HoldsFirst f n xs = (k : ℕ) → k < n → slice_index xs k ≡ f k

-- the tables as lists: 1,000 entries of A and of B, and 10^0 to 10^13
abbrev pub IsTableA : List ℕ → Type 0
IsTableA xs = HoldsFirst table_a 1000 xs

abbrev pub IsTableB : List ℕ → Type 0
IsTableB xs = HoldsFirst table_b 1000 xs

abbrev pub ArePowers : List ℕ → Type 0
ArePowers xs = HoldsFirst (λ q. 10 ^ q) 14 xs
