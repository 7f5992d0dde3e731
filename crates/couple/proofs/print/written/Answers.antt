-- `couple::print::written` meets its contract: a machine's word counts the whole sheet. Assumes nothing.
use native.Mathlib.Omega.{arith}
use Rattle.channel.proofs.Dues.{due_within, sends_one}
use Rattle.couple_steps.proofs.Order.{sheet_short}
use Rattle.couple.proofs.print.written.Goals as goal

pub write-requires : goal.write-requires
write-requires c =
    let a = c.args in
    let short = sheet_short a.ids.now a.numbers.now a.answers.now a.many in
    omega (arith, due_within c.requires.due, short, c.requires.many_le_max_flights)

pub returns : goal.returns
returns c = sends_one c.write.ensures
