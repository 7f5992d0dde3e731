-- `text::inner::put_word` meets its contract: a comma, and past it the text. Assumes nothing.
use native.Mathlib.Omega.{arith}
use Rattle.room.proofs.Laws.{wrote_then}
use Rattle.text.proofs.inner.put_word.Goals as goal

pub returns : goal.returns
returns c =
    wrote_then (omega (arith, c.requires)) c.put_byte-next.ensures c.put_text.ensures
