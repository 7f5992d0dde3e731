-- `sentence::inner::put_about` meets its contract: one text past the other. Assumes nothing.
use native.Mathlib.Omega.{arith}
use lib.ListN.{length-append}
use Rattle.room.proofs.Laws.{wrote_then}
use Rattle.sentence.proofs.inner.put_about.Goals as goal

pub returns : goal.returns
returns c =
    wrote_then (omega (arith, length-append c.args.about.now c.args.what.now))
    c.put_text-next.ensures c.put_text.ensures
