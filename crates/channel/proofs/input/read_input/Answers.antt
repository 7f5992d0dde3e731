-- `channel::input::read_input` meets its contract: the source is standard input. Assumes nothing.
use Rattle.channel.specs.System.{standard_input}
use Rattle.channel.proofs.input.read_input.Goals as goal

pub read_from-requires : goal.read_from-requires
read_from-requires c = standard_input
