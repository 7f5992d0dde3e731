-- `grid::put::put_row` meets its contract. Assumes nothing.
use native.Mathlib.Omega.{arith}
use Rattle.room.proofs.Laws.{wrote_then}
use Rattle.grid.specs.Write.{row_line}
use Rattle.grid.proofs.WriteSizes.{ended-length}
use Rattle.grid.proofs.put.put_row.Goals as goal

pub put_values-end-requires : goal.put_values-end-requires
put_values-end-requires c =
    (c.requires.0, c.requires.1, omega (arith, c.requires.2, ended-length (row_line c.args.row.now)))

pub put_end-requires : goal.put_end-requires
put_end-requires c =
    let v = c.put_values-end in
    omega (arith, c.requires.2, ended-length (row_line c.args.row.now), v.ensures.place, v.auto.out)

pub returns : goal.returns
returns c =
    wrote_then c.requires.2 c.put_values-end.ensures c.put_end.ensures.wrote
