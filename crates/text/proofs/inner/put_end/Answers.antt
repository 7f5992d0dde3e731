-- `text::inner::put_end` meets its contract: CR, and past it LF. Assumes nothing.
use native.Mathlib.Omega.{arith}
use Rattle.text.proofs.Within.{within, byte_then}
use Rattle.text.proofs.inner.put_end.Goals as goal

pub returns : goal.returns
returns c =
    byte_then c.requires c.put_byte-next.ensures (within {m = 1} (omega arith) c.put_byte.ensures)
