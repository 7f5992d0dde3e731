-- `text::inner::put_any_number` meets its contract: a number has at most 20 digits. Assumes nothing.
use native.Mathlib.Omega.{arith}
use Rattle.text.proofs.{Shown.number_short, Within.within}
use Rattle.text.proofs.inner.put_any_number.Goals as goal

pub put_number-requires : goal.put_number-requires
put_number-requires c = omega (arith, number_short c.args.n)

pub returns : goal.returns
returns c =
    within (number_short c.args.n) c.put_number.ensures
