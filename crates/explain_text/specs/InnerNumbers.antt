-- Inner steps: no promise uses them. The numbers of a line, from the 78 of an account. Assumes nothing.
use Rattle.std.specs.Prelude.{ℕ, ◌+◌, ◌*◌, ◌^◌, ◌<◌, List, slice_index}
use Rattle.movement.specs.Limits.{group_count}
use Rattle.load_rules.specs.Factors.{ratio, sum_to}
use Rattle.load_rules.specs.Account.{whole_from}
use Rattle.explain_text.specs.declared.amounts.Amounts.{Amounts}
use Rattle.explain_text.specs.Text.{amounts}

-- number k of the four of group g, and of the numbers behind the groups
unfoldable pub number_at : List ℕ → (group k : ℕ) → ℕ
number_at n g k = slice_index n (4 * g + k)

unfoldable pub whole_at : List ℕ → ℕ → ℕ
whole_at n k = slice_index n (whole_from + k)

-- number k of the groups below g, added up
unfoldable pub sum_at : List ℕ → (k : ℕ) → ℕ → ℕ
sum_at n k g = sum_to (λ i. number_at n i k) g

-- V and U of all groups add up to a number of 64 bits
pub record Addable (n : List ℕ) : Type 0 where
  pub most : sum_at n 0 group_count + sum_at n 1 group_count < 2 ^ 64

unfoldable pub group_in : List ℕ → ℕ → Amounts
group_in n g =
    amounts (number_at n g 0) (number_at n g 1) (ratio (number_at n g 0 + number_at n g 1) (number_at n g 0))
    (number_at n g 2) (number_at n g 3)

unfoldable pub all_in : List ℕ → Amounts
all_in n =
    amounts (sum_at n 0 group_count) (sum_at n 1 group_count) (ratio (whole_at n 0) (whole_at n 1)) (whole_at n 2)
    (whole_at n 3)
