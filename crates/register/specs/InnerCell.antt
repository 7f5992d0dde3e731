-- Inner steps: no promise uses them. What the readers and writers of a row's columns ask and leave. Assumes nothing.
use Rattle.std.specs.Prelude.{ℕ, ◌+◌, ◌<◌, ◌≤◌, Bool, cond, ◌&&◌, List, [], length, ◌==◌, nat_le, slice_index}
use Rattle.std.specs.Prelude.{Option, Some, None}
use Rattle.movement.specs.Limits.{max_points, seconds_a_day, type_count, kind_count}
use Rattle.text.specs.Spelled.{bytes}
use Rattle.register.specs.Column.{level_columns, in_column}
use Rattle.register.specs.Write.{columns}
use Rattle.register.specs.Cell.{Cells, got_cells, off_cells}
use Rattle.register.specs.declared.cell.Line.{Line}
use Rattle.register.specs.declared.row.Fields.{Fields}

-- a field of column k is a level that is left blank
abbrev pub blank_cell : ℕ → List ℕ → Bool
blank_cell k t = nat_le level_columns k && length t == 0

-- the fields of a line that was read, or could not be
abbrev pub cells_told : Option Line → Cells
cells_told (Some line) = got_cells line.blanks line.values
cells_told None = off_cells

-- the values that have a text in column k: those below this
unfoldable pub top_of : ℕ → ℕ
top_of k =
    in_column
    (record {
      identity = 10000000;
      ty = type_count;
      mass = 10000000;
      kind = kind_count;
      time = seconds_a_day;
      level = 100000;
    })
    k

-- the comma before column k
abbrev pub comma_at : ℕ → List ℕ
comma_at k = cond (k == 0) [] (bytes ",")

-- columns whose values all have a text
pub record Writable (f : Fields) (levels : List ℕ) : Type 0 where
  pub few : length levels ≤ max_points
  pub below : (k : ℕ) → k < level_columns + length levels → slice_index (columns f levels) k < top_of k
