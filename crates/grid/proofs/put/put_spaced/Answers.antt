-- `grid::put::put_spaced` meets its contract. Assumes nothing.
use Rattle.room.proofs.Laws.{wrote_then}
use Rattle.grid.proofs.put.put_spaced.Goals as goal

pub returns : goal.returns
returns c =
    wrote_then c.requires.1 c.put_byte-next.ensures c.put_thousandths.ensures
