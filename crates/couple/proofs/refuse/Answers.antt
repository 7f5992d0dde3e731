-- `couple::refuse`: its number is written, and its line. Assumes nothing.
use Rattle.couple.proofs.refuse.Goals as goal

pub refused-went-requires-clause-may_write : goal.refused-went-requires-clause-may_write
refused-went-requires-clause-may_write c = rw c.number.ensures c.requires.may_write
