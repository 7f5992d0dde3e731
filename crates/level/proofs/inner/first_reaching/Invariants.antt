-- `level::inner::first_reaching` meets its contract. Every level before the decade of m misses m, and the first level
-- of the next decade reaches it. The loop's invariant: every level before n misses m. Assumes nothing.
use Rattle.std.specs.Prelude.{ℕ, ◌<◌}
use Rattle.level.specs.{Level.bound}
use Rattle.level.proofs.inner.first_reaching.Given as goal

-- every level before n misses m
abbrev pub Missed : (m n : ℕ) → Type 0
Missed m n = (j : ℕ) → j < n → bound j < m

abbrev pub invariant-loop-n : goal.invariant-loop-n
invariant-loop-n l = Missed l.m l.n
