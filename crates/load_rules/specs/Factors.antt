-- Fractions of whole numbers, and the two factors of a load as fractions: RULES, "Energy and load".
-- Both the load and demand 3 use these.
-- Assumes nothing.
use Rattle.std.specs.Prelude.{ℕ, zero, suc, ◌+◌, ◌*◌, ◌/◌, ◌≤◌, ◌<◌, ◌≡◌, cond, eqb}
use Rattle.movement.specs.Limits.{group_count}
use Rattle.load_rules.specs.declared.Counts.{Counts}

-- Fractions

pub record Fraction : Type 0 where
  pub upper : ℕ
  pub lower : ℕ

abbrev pub ratio : (upper lower : ℕ) → Fraction
ratio a b = record { upper = a; lower = b }

abbrev pub whole_fraction : ℕ → Fraction
whole_fraction n = ratio n 1

abbrev pub times : Fraction → Fraction → Fraction
times x y = ratio (x.upper * y.upper) (x.lower * y.lower)

abbrev pub plus : Fraction → Fraction → Fraction
plus x y = ratio (x.upper * y.lower + y.upper * x.lower) (x.lower * y.lower)

-- both lowers are above 0, and the cross products are equal
pub record Equal (x y : Fraction) : Type 0 where
  pub left : zero < x.lower
  pub right : zero < y.lower
  pub cross : x.upper * y.lower ≡ y.upper * x.lower

-- e times a fraction, rounded down; where the lower is 0 nothing is divided
unfoldable pub scaled_by : Fraction → ℕ → ℕ
scaled_by x e = cond (eqb x.lower 0) 0 (e * x.upper / x.lower)

-- r is e times a fraction, rounded down
pub record RoundedDown (x : Fraction) (e r : ℕ) : Type 0 where
  pub reached : r * x.lower ≤ e * x.upper
  pub next : e * x.upper < suc r * x.lower

-- The factors, from V and U of each group

-- f summed over the numbers below n
unfoldable pub sum_to : (ℕ → ℕ) → ℕ → ℕ
sum_to f zero = 0
sum_to f (suc n) = sum_to f n + f n

-- a sum has each number below n once: what only h has, where h is below n, and of two functions the sums of both
pub record SumsEach : Type 0 where
  pub below : (k h n : ℕ) → h < n → sum_to (λ i. cond (eqb h i) k 0) n ≡ k
  pub past : (k h n : ℕ) → n ≤ h → sum_to (λ i. cond (eqb h i) k 0) n ≡ 0
  pub both : (f g : ℕ → ℕ) (n : ℕ) → sum_to (λ i. f i + g i) n ≡ sum_to f n + sum_to g n

-- a group with computed movements has its V + U known; the U of any other are unknown
unfoldable pub known : Counts → ℕ
known c = cond (eqb c.computed 0) 0 (c.computed + c.missing)

unfoldable pub unknown : Counts → ℕ
unknown c = cond (eqb c.computed 0) c.missing 0

-- V + U and W over the 18 groups
unfoldable pub known_sum : (ℕ → Counts) → ℕ
known_sum f = sum_to (λ g. known (f g)) group_count

unfoldable pub unknown_sum : (ℕ → Counts) → ℕ
unknown_sum f = sum_to (λ g. unknown (f g)) group_count

-- a group's factor (V+U)/V, and the general factor (V+U+W)/(V+U) over all groups
abbrev pub group_factor : Counts → Fraction
group_factor c = ratio (c.computed + c.missing) c.computed

unfoldable pub general_factor : (ℕ → Counts) → Fraction
general_factor f = ratio (known_sum f + unknown_sum f) (known_sum f)
