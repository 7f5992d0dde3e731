-- `sentence::put_sentence` meets its contract: no sentence is longer than the buffer. Assumes nothing.
use native.Mathlib.Omega.{arith}
use Rattle.sentence.proofs.Says.{each_short}
use Rattle.sentence.proofs.put_sentence.Goals as goal

pub returns : goal.returns
returns c =
    let put = c.put_any in
    (put.ensures, omega (arith, put.ensures.place, each_short c.args.number))
