-- `wkt::put::put_spot` meets its contract. Assumes nothing.
use Rattle.std.specs.Prelude.{◌+◌, ◌≤◌, ◌∷◌, length}
use native.Mathlib.Omega.{arith}
use lib.ListN.{length-append}
use Rattle.room.proofs.Laws.{wrote_then}
use Rattle.wkt.specs.Text.{show_metres}
use Rattle.wkt.proofs.put.put_spot.Goals as goal
use Rattle.wkt.proofs.put.put_spot.Goals.{Start}

-- the room, part by part
room : (c : Start)
    → c.args.at + length (show_metres c.args.spot.x) + 1 + length (show_metres c.args.spot.y) ≤ length
    c.args.out.now
room c = omega (arith, c.requires, length-append (show_metres c.args.spot.x) (32 ∷ show_metres c.args.spot.y))

pub put_byte-next-requires : goal.put_byte-next-requires
put_byte-next-requires c =
    let east = c.put_decimal-space in
    omega (arith, room (goal.at.put_byte-next-requires c).Start, east.ensures.place, east.auto.out)

pub put_decimal-requires : goal.put_decimal-requires
put_decimal-requires c =
    let space = c.put_byte-next in
    let east = c.put_decimal-space in (
      omega arith,
      omega arith,
      omega (
        arith,
        room (goal.at.put_decimal-requires c).Start,
        east.ensures.place,
        east.auto.out,
        space.ensures.place,
        space.auto.out,
      ),
    )

pub returns : goal.returns
returns c =
    let east = c.put_decimal-space in
    wrote_then c.requires east.ensures
    (wrote_then (omega (arith, room (goal.at.returns c).Start, east.ensures.place, east.auto.out))
    c.put_byte-next.ensures
    c.put_decimal.ensures)

pub put_decimal-space-requires : goal.put_decimal-space-requires
put_decimal-space-requires c = (
  omega arith,
  omega arith,
  omega (arith, room (goal.at.put_decimal-space-requires c).Start),
)
