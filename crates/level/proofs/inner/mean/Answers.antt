-- `level::inner::mean` meets its contract: 1000·total / (86,400·days) is 5·total / 432 / days, and 5·total / 432
-- fits. Assumes nothing.
use mathlib.Core.Path.{ap, ◌∙◌}
use Rattle.std.specs.Prelude.{ℕ, ◌/◌}
use native.Mathlib.Omega.{arith}
use Rattle.level.proofs.ScaleLaws.{mean_by_parts}
use Rattle.level.proofs.inner.mean.Goals as goal

pub returns : goal.returns
returns c =
    let a = c.args in
    ap (λ (t : ℕ). t / a.days) c.scaled.ensures ∙ mean_by_parts a.total a.days

pub scaled-requires : goal.scaled-requires
scaled-requires c = omega arith
