-- `level::inner::bound_at` meets its contract: B(k) is below 10^7 and its factor at most 10^10, so that each product
-- fits. Assumes nothing.
use Rattle.std.specs.Prelude.{◌≡◌, ℕ, ◌*◌, ◌/◌, ◌%◌, ◌^◌, ◌<◌, ◌≤◌}
use mathlib.Core.Path.{sym}
use native.Mathlib.{Nat.mul-le-mul, Nat.pow-le-pow_right, Nat.lt_of_le_of_lt, Omega.arith}
use lib.{Dec.lit<, ListN.get_or}
use Rattle.level.specs.{Tables.table_b, Level.bound}
use Rattle.level.proofs.LevelLaws.{b_below, thousand_out, thousandth_le}
use Rattle.level.proofs.inner.bound_at.Goals as goal
use Rattle.level.proofs.inner.bound_at.Goals.{Start}

-- a number of table B times one up to 10^10 fits
fits : (k x : ℕ) → k < 1000 → x ≤ 10 ^ 10 → table_b k * x < 2 ^ 64
fits k x h l =
    let b = b_below k h in
    lt_of_le_of_lt {m = 10 ^ 7 * 10 ^ 10} (mul-le-mul {n₂ = 10 ^ 7} {m₂ = 10 ^ 10} (omega arith) l) (lit< tt)

-- the two numbers that are read
of-b : (s : Start) → get_or s.args.b.now (s.args.n % 1000) 0 ≡ table_b (s.args.n % 1000)
of-b s = s.requires.1 (s.args.n % 1000) (omega arith)

of-powers : (s : Start) (q : ℕ) → q < 14 → get_or s.args.powers.now q 0 ≡ 10 ^ q
of-powers s q h = s.requires.2 q h

pub overflow_mul-result : goal.overflow_mul-result
overflow_mul-result c =
    record {
      fits = rw (
        of-b (goal.at.overflow_mul-result c).Start,
        of-powers (goal.at.overflow_mul-result c).Start (c.args.n / 1000) (omega arith),
      )
          (fits (c.args.n % 1000) (10 ^ (c.args.n / 1000)) (omega arith)
          (pow-le-pow_right (lit< tt) {j = 10} (omega arith)));
    }

pub overflow_mul-result-else-q-lt3 : goal.overflow_mul-result-else-q-lt3
overflow_mul-result-else-q-lt3 c =
    record {
      fits =
          rw (
            of-b (goal.at.overflow_mul-result-else-q-lt3 c).Start,
            of-powers (goal.at.overflow_mul-result-else-q-lt3 c).Start (c.args.n / 1000) (omega arith),
          )
          (fits (c.args.n % 1000) (10 ^ (c.args.n / 1000) / 1000) (omega arith)
          (thousandth_le (c.args.n / 1000) 10 (omega arith)));
    }

pub returns-then-q-lt3 : goal.returns-then-q-lt3
unfolding bound
returns-then-q-lt3 c = rw (
  of-b (goal.at.returns-then-q-lt3 c).Start,
  of-powers (goal.at.returns-then-q-lt3 c).Start (c.args.n / 1000) (omega arith),
)

pub returns-else-q-lt3 : goal.returns-else-q-lt3
unfolding bound
returns-else-q-lt3 c =
    rw (
      of-b (goal.at.returns-else-q-lt3 c).Start,
      of-powers (goal.at.returns-else-q-lt3 c).Start (c.args.n / 1000) (omega arith),
    )
    (sym (thousand_out (table_b (c.args.n % 1000)) (c.args.n / 1000) (omega arith)))
