-- `mapping::shown_of` meets its contract. Assumes nothing.
use Rattle.mapping.proofs.Zero.{zero_whole}
use Rattle.mapping.proofs.shown_of.Goals as goal

pub returns-in-None : goal.returns-in-None
returns-in-None c = rw (c.in-None.is, zero_whole)
