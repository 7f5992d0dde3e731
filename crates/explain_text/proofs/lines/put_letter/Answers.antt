-- `explain_text::lines::put_letter` meets its contract: a comma, and past it the letter. Assumes nothing.
use native.Mathlib.Omega.{arith}
use Rattle.text.proofs.Within.{within, byte_then}
use Rattle.explain_text.proofs.lines.put_letter.Goals as goal

pub returns : goal.returns
returns c =
    byte_then c.requires.1 c.put_byte-next.ensures (within {m = 1} (omega arith) c.put_byte.ensures)
