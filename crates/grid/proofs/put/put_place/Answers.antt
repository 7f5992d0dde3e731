-- `grid::put::put_place` meets its contract: three lines. Assumes nothing.
use Rattle.std.specs.Prelude.{◌+◌, ◌≤◌, length}
use native.Mathlib.Omega.{arith}
use Rattle.text.proofs.Within.{room_after, wrote_three}
use Rattle.grid.specs.{File.xllcenter, File.yllcenter, File.cellsize, Write.key_line, InnerSteps.ended}
use Rattle.grid.proofs.WriteSizes.{three_lines, three_length}
use Rattle.grid.proofs.put.put_place.Goals as goal
use Rattle.grid.proofs.put.put_place.Goals.{Start}

-- the room, line by line
room : (c : Start) → let f = c.args.frame in
    c.args.at + (length (ended (key_line xllcenter f.west)) +
    (length (ended (key_line yllcenter f.south)) + length (ended (key_line cellsize f.spacing)))) ≤ length
    c.args.out.now
room c = let f = c.args.frame in
    omega (
      arith,
      c.requires.1,
      three_length (key_line xllcenter f.west) (key_line yllcenter f.south)
          (key_line cellsize f.spacing),
    )

pub put_line-fourth-requires : goal.put_line-fourth-requires
put_line-fourth-requires c = (
  c.requires.0.west_most,
  omega (arith, room (goal.at.put_line-fourth-requires c).Start),
)

pub put_line-fifth-requires : goal.put_line-fifth-requires
put_line-fifth-requires c = (
  c.requires.0.south_most,
  omega (
    arith,
    room_after _ (room (goal.at.put_line-fifth-requires c).Start) c.put_line-fourth.ensures,
  ),
)

pub put_line-requires : goal.put_line-requires
put_line-requires c = (
  c.requires.0.spacing_most,
  room_after _ (room_after _ (room (goal.at.put_line-requires c).Start) c.put_line-fourth.ensures)
      c.put_line-fifth.ensures,
)

pub returns : goal.returns
returns c =
    rw three_lines
    (wrote_three (room (goal.at.returns c).Start) c.put_line-fourth.ensures c.put_line-fifth.ensures
    c.put_line.ensures)
