-- `load::tally::arranged` meets its contract: three periods at a time. Assumes nothing.
use mathlib.Core.Path.{refl}
use Rattle.load.specs.InnerSteps.{table}
use Rattle.load.proofs.tally.arranged.Goals as goal

pub returns : goal.returns
unfolding table
returns c =
    rw (
      c.periods_from.ensures,
      c.periods_from-2.ensures,
      c.periods_from-3.ensures,
      c.periods_from-4.ensures,
      c.periods_from-5.ensures,
      c.periods_from-6.ensures,
    )
    refl
