-- `text::inner::put_whole` meets its contract: seven digits are as many as any number needs. Assumes nothing.
use Rattle.text.proofs.Shown.{whole_number_lem}
use Rattle.text.proofs.inner.put_whole.Goals as goal

pub returns : goal.returns
returns c =
    rw (whole_number_lem c.args.n c.requires.0) at c.put_number.ensures

pub put_number-requires : goal.put_number-requires
put_number-requires c = rw (whole_number_lem c.args.n c.requires.0) c.requires.1
