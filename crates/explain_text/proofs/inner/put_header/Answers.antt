-- `explain_text::inner::put_header` meets its contract: the header, and past it the end of the line. Assumes nothing.
use native.Mathlib.Omega.{arith}
use Rattle.text.proofs.Within.{within, within_then}
use Rattle.explain_text.proofs.inner.put_header.Goals as goal

pub returns : goal.returns
returns c =
    let room = c.requires in
    within_then (omega arith) (within {m = 61} (omega arith) c.put_text-next.ensures) c.put_end.ensures
