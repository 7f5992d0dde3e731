-- `files::inner::write` meets its contract: what went is the program's text. Assumes nothing.
use Rattle.channel.proofs.{Dues.sends_one, Running.ran}
use Rattle.files.proofs.inner.write.Goals as goal

pub returns : goal.returns
returns c =
    ran (record { limits = c.args.limits.now; written = c.requires.written }) c.requires.sent_value (sends_one c.write.ensures)
