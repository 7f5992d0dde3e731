-- `stream::inner::tables::fill_lines` meets its contract: the lines before `at` are taken. Assumes nothing.
use Rattle.std.specs.Prelude.{◌≡◌, ◌-◌, length}
use Rattle.stream.specs.Reading.{reading_at}
use Rattle.stream.proofs.Takings.{Taking}
use Rattle.stream.proofs.inner.tables.fill_lines.Given as goal

abbrev pub invariant-loop-end : goal.invariant-loop-end
invariant-loop-end g l =
    Taking (g.T.Table.step l.initial.table) (reading_at 0 l.line (g.T.Table.held l.initial.table l.line)) l.bytes l.at
    l.number (g.T.Table.held l.table l.number) l.end
    × g.T.Table.Ready l.table × (g.T.Table.step l.table ≡ g.T.Table.step l.initial.table)
    × (g.T.Table.memory l.table ≡ g.T.Table.memory l.initial.table)

abbrev pub decreases-loop-end : goal.decreases-loop-end
decreases-loop-end g l = length l.bytes - l.at
