-- Long lines of a file are refused. Assumes nothing.
use Rattle.stream_cases.proofs.Long.{longest_lengths}
use Rattle.stream_cases.proofs.files.file.Goals as goal

pub read_whole-turn-requires-clause-long_is_off : goal.read_whole-turn-requires-clause-long_is_off
read_whole-turn-requires-clause-long_is_off c = longest_lengths 8
