-- `couple::print::write` meets its contract: what went is what the files come to. Assumes nothing.
use Rattle.channel.proofs.{Dues.sends_one, Running.ran}
use Rattle.couple.proofs.print.write.Goals as goal

pub returns : goal.returns
returns c =
    ran c.requires.may_write c.requires.sent_value (sends_one c.write.ensures)
