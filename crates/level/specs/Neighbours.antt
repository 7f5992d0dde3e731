-- What RULES, "Energy and load", says of each number, by the whole numbers on both sides of it.
-- Its own numbers stand here again, so that a definition with another of them, or another rounding, is stopped.
-- Assumes nothing.
use Rattle.std.specs.Prelude.{◌≡◌, ℕ, suc, ◌+◌, ◌*◌, ◌/◌, ◌%◌, ◌^◌, ◌<◌, ◌≤◌, ◌↔◌}
use Rattle.level.specs.declared.Level.{Level}
use Rattle.level.specs.Tables.{Root, table_a, table_b}
use Rattle.level.specs.Energy.{energy_of, mean_of}
use Rattle.level.specs.Level.{level_given, level_value, verdict_number, level_of, verdict_of}

-- r is a / b rounded down: r·b is at most a, and the next number's is not
pub record Quotient (a b r : ℕ) : Type 0 where
  pub reached : r * b ≤ a
  pub next : a < suc r * b

-- level n reaches m: m is at most B(n mod 1000)·10^(n div 1000) / 1000 rounded down, so m·1000 at most the product
abbrev pub Reaches : (n m : ℕ) → Type 0
Reaches n m = m * 1000 ≤ table_b (n % 1000) * 10 ^ (n / 1000)

-- n is the smallest level that reaches m
pub record SmallestReaching (m n : ℕ) : Type 0 where
  pub reaches : Reaches n m
  pub no_smaller : (j : ℕ) → j < n → ¬ Reaches j m

pub record ByNeighbours : Type 0 where
  -- A(k) is the largest whole number whose 1000th power is at most 10^(6000+k)
  pub table_a_rule : (k : ℕ) → Root 1000 (10 ^ (6000 + k)) (table_a k)
  -- B(k) is the largest whole number whose 2000th power is at most 10^(12000+2k+1)
  pub table_b_rule : (k : ℕ) → Root 2000 (10 ^ (12000 + 2 * k + 1)) (table_b k)
  -- with c = 1000q + k, energy = A(k)·10^q / 10^6, rounded down
  pub energy : (q k : ℕ) → k < 1000 → Quotient (table_a k * 10 ^ q) 1000000 (energy_of (1000 * q + k))
  -- M = 1000·total / (86,400·days), rounded down
  pub mean : (total days : ℕ) → 1 ≤ days → Quotient (1000 * total) (86400 * days) (mean_of total days)
  -- below zero exactly if M is under 1000; the number beside it is then 0
  pub below-zero : (m : ℕ) → level_given (level_of m) ≡ 0 ↔ m < 1000
  pub no_value : (m : ℕ) → m < 1000 → level_value (level_of m) ≡ 0
  -- otherwise level n is given exactly if it is the smallest that reaches M (any M of 64 bits)
  pub given : (m : ℕ) → level_given (level_of m) ≡ 1 ↔ 1000 ≤ m
  pub level : (m n : ℕ) → 1000 ≤ m → m < 2 ^ 64 → level_value (level_of m) ≡ n ↔ SmallestReaching m n
  -- over exactly if a level is given and is greater than the limit, and otherwise within
  pub over : (l : Level) (limit : ℕ)
      → verdict_number (verdict_of l limit) ≡ 1 ↔ (level_given l ≡ 1) × (limit < level_value l)
  pub within : (l : Level) (limit : ℕ)
      → verdict_number (verdict_of l limit) ≡ 0 ↔ ¬ ((level_given l ≡ 1) × (limit < level_value l))
