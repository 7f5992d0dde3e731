-- The script comes from standard input, and its long lines are refused. Assumes nothing.
use Rattle.channel.specs.System.{standard_input}
use Rattle.stream_cases.proofs.Long.{longest_lengths}
use Rattle.stream_cases.proofs.main.Goals as goal

pub read_whole-turn-requires-clause-descriptor : goal.read_whole-turn-requires-clause-descriptor
read_whole-turn-requires-clause-descriptor c = standard_input

pub read_whole-turn-requires-clause-long_is_off : goal.read_whole-turn-requires-clause-long_is_off
read_whole-turn-requires-clause-long_is_off c = longest_lengths 120
