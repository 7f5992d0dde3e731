-- A piece may be taken: long lines are refused. Assumes nothing.
use Rattle.stream_cases.proofs.Long.{longest_lengths}
use Rattle.stream_cases.proofs.taken.piece.Goals as goal

pub take_piece-piece-requires-clause-long_is_off : goal.take_piece-piece-requires-clause-long_is_off
take_piece-piece-requires-clause-long_is_off c = longest_lengths 8
