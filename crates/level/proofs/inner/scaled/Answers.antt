-- `level::inner::scaled` meets its contract: s·n / d is s / d · n and what the rest gives, and both parts fit since
-- their sum does. Assumes nothing.
use Rattle.std.specs.Prelude.{◌≡◌, ◌+◌, ◌*◌, ◌/◌, ◌%◌}
use mathlib.Core.Path.{sym}
use native.Mathlib.Omega.{arith}
use Rattle.level.proofs.ScaleLaws.{by_parts}
use Rattle.level.proofs.inner.scaled.Goals as goal
use Rattle.level.proofs.inner.scaled.Goals.{Start}

-- the sum of both parts
sum : (c : Start)
    → c.args.s * c.args.n / c.args.d ≡ c.args.s / c.args.d * c.args.n + c.args.s % c.args.d * c.args.n / c.args.d
sum c = by_parts c.args.s c.args.n c.args.d c.requires.0

pub overflow_mul-result : goal.overflow_mul-result
overflow_mul-result c = omega (arith, sum c, c.requires.1)

pub overflow_add-result : goal.overflow_add-result
overflow_add-result c = omega (arith, sum c, c.requires.1)

pub returns : goal.returns
returns c = sym (sum c)
