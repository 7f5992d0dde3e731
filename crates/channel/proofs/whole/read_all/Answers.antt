-- `channel::whole::read_all` meets its contract: the source is standard input. Assumes nothing.
use Rattle.channel.specs.System.{standard_input}
use Rattle.channel.proofs.whole.read_all.Goals as goal

pub fill_from-requires : goal.fill_from-requires
fill_from-requires c = standard_input
