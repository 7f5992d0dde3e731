-- `register::write::put_row` meets its contract: the line, and past it the CRLF. Assumes nothing.
use Rattle.std.proofs.Common.{arith, length-append}
use Rattle.text.specs.Spelled.{crlf}
use Rattle.room.proofs.Laws.{wrote_then}
use Rattle.register.specs.Write.{show_line}
use Rattle.register.proofs.write.put_row.Goals as goal

pub returns : goal.returns
returns c =
    let line = show_line c.args.f c.args.levels.now in
    let most = c.put_line-at.ensures.1 in
    let place = c.put_line-at.ensures.0.place in
    let long = length-append line crlf in (
      wrote_then (omega (arith, c.requires.1)) c.put_line-at.ensures.0 c.put_end.ensures.wrote,
      omega (arith, c.put_end.ensures.within),
    )
