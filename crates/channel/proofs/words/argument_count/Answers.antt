-- `channel::words::argument_count` meets its contract: the one place that says how many there are. Assumes nothing.
use Rattle.channel.specs.System.{system_counted}
use Rattle.channel.proofs.words.argument_count.Goals as goal

pub returns-in-Err-NotPresent : goal.returns-in-Err-NotPresent
returns-in-Err-NotPresent c = system_counted _

pub returns : goal.returns
returns c = system_counted _
