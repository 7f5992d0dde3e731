-- Sums of the groups' numbers, one group more; and each summand is at most the sum. Assumes nothing.
use mathlib.Core.{Path.◌≡◌, Path.refl, Path.ap, Path.subst, List.List}
use Rattle.std.specs.Prelude.{ℕ, ◌+◌, ◌-◌, ◌<◌, ◌≤◌}
use native.Mathlib.{Numerals.add-one, Omega.arith}
use Rattle.movement.specs.Limits.{group_count}
use Rattle.load_rules.specs.Factors.{sum_to}
use Rattle.load_rules.proofs.SumLaws.{sum_more}
use Rattle.explain_text.specs.InnerNumbers.{number_at, sum_at}

module _ (n : List ℕ) (k : ℕ) where
  pub sum_none : sum_at n k 0 ≡ 0
  unfolding sum_at sum_to
  sum_none = refl

  grows : (g m : ℕ) → sum_at n k g ≤ sum_at n k (m + g)
  unfolding sum_at
  grows g m = sum_more (λ i. number_at n i k) g m

  pub sum_next : (g : ℕ) → sum_at n k (g + 1) ≡ sum_at n k g + number_at n g k
  unfolding sum_at sum_to
  sum_next g = ap (sum_at n k) (add-one g)

  -- one group more is still within the sum of all
  pub sum_within : (g : ℕ) → g < group_count → sum_at n k g + number_at n g k ≤ sum_at n k group_count
  sum_within g h =
      let e : 17 - g + (g + 1) ≡ group_count = omega arith in
      let m : sum_at n k (g + 1) ≤ sum_at n k group_count = subst (λ (i : ℕ). sum_at n k (g + 1) ≤ sum_at n k i) e
      (grows (g + 1) (17 - g)) in
      omega (arith, sum_next g)
