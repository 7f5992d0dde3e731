-- `text::inner::put_any_level` meets its contract: such a level has at most 6 bytes. Assumes nothing.
use native.Mathlib.Omega.{arith}
use Rattle.text.proofs.{Shown.level_most, Within.within}
use Rattle.text.proofs.inner.put_any_level.Goals as goal

pub put_level-requires : goal.put_level-requires
put_level-requires c = (c.requires.0, omega (arith, level_most c.args.n c.requires.0))

pub returns : goal.returns
returns c =
    within (level_most c.args.n c.requires.0) c.put_level.ensures
