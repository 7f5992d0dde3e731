-- `column::inner::make_room` meets its contract. Assumes nothing.
use Rattle.column.proofs.Parts.{room_made}
use Rattle.column.proofs.inner.make_room.Goals as goal

pub returns : goal.returns
returns c =
    room_made c.args.at c.args.count c.args.w c.args.column.now c.requires.zero_from c.requires.w_in_bounds
    c.shift_up.ensures
