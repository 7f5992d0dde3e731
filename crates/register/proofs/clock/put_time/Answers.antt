-- `register::clock::put_time` meets its contract: five writes, each past the one before. Assumes nothing.
use native.Mathlib.Omega.{arith}
use Rattle.room.proofs.Laws.{wrote_then}
use Rattle.register.proofs.clock.put_time.Goals as goal

pub returns : goal.returns
returns c =
    let room = c.requires.1 in
    wrote_then (omega arith)
    (wrote_then (omega arith)
    (wrote_then (omega arith)
    (wrote_then (omega arith) c.put_digits-hours.ensures c.put_byte-first.ensures)
    c.put_digits-minutes.ensures)
    c.put_byte-second.ensures)
    c.put_digits.ensures
