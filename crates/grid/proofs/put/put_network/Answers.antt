-- `grid::put::put_network` meets its contract: the header in two parts, then the rows. Assumes nothing.
use Rattle.std.specs.Prelude.{◌+◌, ◌≤◌, length}
use native.Mathlib.Omega.{arith}
use mathlib.Core.List.{append_assoc}
use Rattle.text.proofs.Within.{room_after, wrote_three}
use Rattle.grid.specs.{Write.text_of, Write.row_lines, InnerSteps.side_lines, InnerSteps.place_lines}
use Rattle.grid.proofs.{WriteSizes.near, WriteSizes.network_text_lem, WriteLaws.parts_length}
use Rattle.grid.proofs.put.put_network.Goals as goal
use Rattle.grid.proofs.put.put_network.Goals.{Start}

-- the room, part by part
room : (c : Start) → let f = c.args.frame in
    0 + (length (text_of (side_lines f)) + (length (text_of (place_lines f)) + length
    (text_of (row_lines f.columns c.args.levels.now f.rows)))) ≤ length c.args.out.now
room c = omega (arith, c.requires.1, parts_length c.args.levels.now c.args.frame)

pub put_place-rows-requires : goal.put_place-rows-requires
put_place-rows-requires c = (
  near _ _ c.requires.0,
  omega (
    arith,
    room_after _ (room (goal.at.put_place-rows-requires c).Start) c.put_sides-place.ensures,
  ),
)

pub put_rows-requires : goal.put_rows-requires
put_rows-requires c = (
  c.requires.0.sized,
  c.requires.0.quiet,
  room_after _ (room_after _ (room (goal.at.put_rows-requires c).Start) c.put_sides-place.ensures)
      c.put_place-rows.ensures,
)

pub returns : goal.returns
returns c =
    rw (network_text_lem c.args.levels.now c.args.frame, append_assoc)
    (wrote_three (room (goal.at.returns c).Start) c.put_sides-place.ensures c.put_place-rows.ensures
    c.put_rows.ensures)

pub put_sides-place-requires : goal.put_sides-place-requires
put_sides-place-requires c = (near _ _ c.requires.0, omega (arith, room (goal.at.put_sides-place-requires c).Start))
