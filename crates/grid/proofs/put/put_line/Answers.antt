-- `grid::put::put_line` meets its contract: the key, the number and the end, each past the other. Assumes nothing.
use Rattle.std.specs.Prelude.{◌+◌, ◌≤◌, length}
use native.Mathlib.Omega.{arith}
use Rattle.text.specs.Number.{show_whole}
use Rattle.room.proofs.Laws.{wrote_then}
use Rattle.text.proofs.Within.{room_after}
use Rattle.grid.specs.Write.{key_line}
use Rattle.grid.proofs.WriteSizes.{ended-length, key-length}
use Rattle.grid.proofs.put.put_line.Goals as goal
use Rattle.grid.proofs.put.put_line.Goals.{Start}

-- the room, part by part
room : (c : Start) → c.args.at + (length c.args.key.now + (length (show_whole c.args.n) + 2)) ≤
    length c.args.out.now
room c = omega (
  arith,
  c.requires.1,
  ended-length (key_line c.args.key.now c.args.n),
  key-length c.args.key.now c.args.n,
)

pub put_whole-end-requires : goal.put_whole-end-requires
put_whole-end-requires c = (
  omega (arith, c.requires.0),
  omega (
    arith,
    room_after _ (room (goal.at.put_whole-end-requires c).Start) c.put_text-number.ensures,
  ),
)

pub put_end-requires : goal.put_end-requires
put_end-requires c =
    room_after _ (room_after _ (room (goal.at.put_end-requires c).Start) c.put_text-number.ensures)
    c.put_whole-end.ensures

pub returns : goal.returns
returns c =
    let l = key-length c.args.key.now c.args.n in
    wrote_then c.requires.1 (wrote_then (omega (arith, room (goal.at.returns c).Start)) c.put_text-number.ensures
    c.put_whole-end.ensures) c.put_end.ensures.wrote

pub put_text-number-requires : goal.put_text-number-requires
put_text-number-requires c = omega (arith, room (goal.at.put_text-number-requires c).Start)
