-- `contours::print::write` meets its contract: what went is what is answered. Assumes nothing.
use Rattle.channel.proofs.Dues.{sends_one}
use Rattle.contours_steps.proofs.Answers.{ran}
use Rattle.contours.proofs.print.write.Goals as goal

pub returns : goal.returns
returns c =
    ran c.requires.answered c.requires.sent_value (sends_one c.write.ensures)
