-- `column::inner::close_at` meets its contract. Assumes nothing.
use Rattle.column.proofs.Parts.{room_closed}
use Rattle.column.proofs.inner.close_at.Goals as goal

pub returns : goal.returns
returns c =
    room_closed c.args.at c.args.count c.args.w c.args.column.now c.requires c.copy_within.ensures.after
    c.fill_at.ensures
