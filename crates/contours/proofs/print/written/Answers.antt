-- `contours::print::written` meets its contract: a machine's word counts the whole sheet. Assumes nothing.
use native.Mathlib.Omega.{arith}
use Rattle.channel.proofs.Dues.{due_within, sends_one}
use Rattle.contours_steps.proofs.Short.{sheet_short}
use Rattle.contours.proofs.print.written.Goals as goal

pub write-requires : goal.write-requires
write-requires c = omega (arith, due_within c.requires.due, sheet_short c.requires.drawable)

pub returns : goal.returns
returns c = sends_one c.write.ensures
