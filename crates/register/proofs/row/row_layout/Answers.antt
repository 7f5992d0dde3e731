-- `register::row::row_layout` meets its contract. Assumes nothing.
use Rattle.register.specs.Row.{row_layout}
use Rattle.register.proofs.row.row_layout.Goals as goal

pub returns : goal.returns
returns c = unfold row_layout in rw c.eight_from.ensures
