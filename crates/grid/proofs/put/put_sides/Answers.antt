-- `grid::put::put_sides` meets its contract: two lines. Assumes nothing.
use Rattle.std.specs.Prelude.{◌+◌, ◌≤◌, length}
use native.Mathlib.Omega.{arith}
use lib.ListN.{length-append}
use Rattle.room.proofs.Laws.{wrote_then}
use Rattle.text.proofs.Within.{room_after}
use Rattle.grid.specs.{File.ncols, File.nrows, Write.key_line, InnerSteps.ended}
use Rattle.grid.proofs.WriteSizes.{two_lines, two_length}
use Rattle.grid.proofs.put.put_sides.Goals as goal
use Rattle.grid.proofs.put.put_sides.Goals.{Start}

-- the room, line by line
room : (c : Start) → let f = c.args.frame in
    0 + (length (ended (key_line ncols f.columns)) + length (ended (key_line nrows f.rows))) ≤ length
    c.args.out.now
room c = let f = c.args.frame in
    omega (arith, c.requires.1, two_length (key_line ncols f.columns) (key_line nrows f.rows))

pub put_line-next-requires : goal.put_line-next-requires
put_line-next-requires c = (
  c.requires.0.columns_most,
  omega (arith, room (goal.at.put_line-next-requires c).Start),
)

pub put_line-requires : goal.put_line-requires
put_line-requires c =
    (c.requires.0.rows_most, room_after _ (room (goal.at.put_line-requires c).Start) c.put_line-next.ensures)

pub returns : goal.returns
returns c =
    let f = c.args.frame in
    let both = length-append (ended (key_line ncols f.columns)) (ended (key_line nrows f.rows)) in
    rw two_lines
    (wrote_then (omega (arith, room (goal.at.returns c).Start, both)) c.put_line-next.ensures
    c.put_line.ensures)
