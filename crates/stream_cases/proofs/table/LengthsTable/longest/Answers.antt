-- A line longer than eight bytes is refused. Assumes nothing.
use Rattle.stream_cases.proofs.Long.{longest_lengths}
use Rattle.stream_cases.proofs.table.LengthsTable.longest.Goals as goal

pub returns-clause-long_is_off : goal.returns-clause-long_is_off
returns-clause-long_is_off c = longest_lengths 8
