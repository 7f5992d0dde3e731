-- Inner steps: no promise uses them. A table as the code keeps it, in one flat list, column after column.
-- Assumes nothing.
use Rattle.refusal.specs.Refusal.{told}
use Rattle.std.specs.Prelude.{◌≡◌, ℕ, ◌+◌, ◌-◌, ◌*◌, ◌≤◌, List, [], length, slice_index}
use Rattle.text.specs.Index.{listing}
use Rattle.coupling_rules.specs.Limits.{max_flights}
use Rattle.channel.specs.System.{Origin}
use Rattle.stream.specs.declared.Turn.{Turn}
use Rattle.stream.specs.Feeding.{Done}
use Rattle.couple_steps.specs.Table.{Rows, table_step, longest_text}

-- row i, and the first n rows
abbrev pub row_in : (columns : ℕ) (flat : List ℕ) (i : ℕ) → List ℕ
row_in columns flat i = listing (λ k. slice_index flat (k * max_flights + i)) columns

abbrev pub rows_in : (columns : ℕ) (flat : List ℕ) (n : ℕ) → Rows
rows_in columns flat n = listing (row_in columns flat) n

-- the rows before a line: line 1 is the header, and line 2 the first row
abbrev pub held_in : (columns : ℕ) (flat : List ℕ) (line : ℕ) → Rows
held_in columns flat line = rows_in columns flat (line - 2)

-- a flat list with room for every row
pub record Roomy (columns : ℕ) (flat : List ℕ) : Type 0 where
  pub few : columns ≤ 9
  pub room : columns * max_flights ≤ length flat

-- a table that was read, and is not refused
pub record TableRead (origin : Origin) (columns : ℕ) (flat : List ℕ) (t : Turn) : Type 0 where
  pub long : length flat ≡ columns * max_flights
  pub done : Done origin (table_step columns) longest_text [] t (held_in columns flat t.line)
  pub fine : told t.refusal ≡ 0
