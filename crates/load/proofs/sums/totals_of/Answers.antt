-- `load::sums::totals_of` meets its contract: the total and its mean fit. Assumes nothing.
use mathlib.Core.Path.{refl}
use Rattle.std.specs.Prelude.{◌+◌, ◌≤◌}
use native.Mathlib.Omega.{arith}
use Rattle.level.specs.Limits.{max_total}
use Rattle.load.specs.InnerSteps.{totals_of}
use Rattle.load.proofs.{BoundLaws.total_le, BoundLaws.mean_le, SumsLaws.some_days}
use Rattle.load.proofs.sums.totals_of.Goals as goal

pub level_of-level-requires : goal.level_of-level-requires
level_of-level-requires c =
    let sums = c.args.s in
    let low : c.scaled_by-total.result ≤ max_total =
    rw c.scaled_by-total.ensures (total_le sums.scaled (sums.known + sums.unknown) sums.known c.requires.scalable) in
    rw c.mean.ensures (mean_le c.scaled_by-total.result c.args.days low)

pub returns : goal.returns
unfolding totals_of
returns c =
    rw (c.level_of-level.ensures, c.mean.ensures, c.scaled_by-total.ensures) refl

pub mean-requires : goal.mean-requires
mean-requires c = omega (arith, some_days c.args.days c.requires.days_value)
