-- `grid::put::put_rows` meets its contract. The invariant: what is written, and what is left to write. Assumes nothing.
use Rattle.room.proofs.Writing.{Writing}
use Rattle.grid.specs.Write.{row_lines, text_of}
use Rattle.grid.proofs.put.put_rows.Given as goal

abbrev pub invariant-loop-row : goal.invariant-loop-row
invariant-loop-row l =
    Writing l.initial.out l.initial.at (text_of (row_lines l.columns l.levels l.rows)) l.out l.at
    (text_of (row_lines l.columns l.levels l.row))
