-- `text::inner::put_any_thousandths` meets its contract: such a level has at most 7 bytes. Assumes nothing.
use native.Mathlib.Omega.{arith}
use Rattle.text.proofs.{Thousandths.thousandths_most, Within.within}
use Rattle.text.proofs.inner.put_any_thousandths.Goals as goal

pub put_thousandths-requires : goal.put_thousandths-requires
put_thousandths-requires c = (c.requires.0, omega (arith, thousandths_most c.args.n c.requires.0))

pub returns : goal.returns
returns c =
    within (thousandths_most c.args.n c.requires.0) c.put_thousandths.ensures
