-- `stream::inner::lines::take_lines` meets its contract: the lines before `at` are taken. Assumes nothing.
use Rattle.std.specs.Prelude.{◌≡◌, ◌-◌, length}
use Rattle.stream.specs.Reading.{reading_at}
use Rattle.stream.proofs.Takings.{Taking}
use Rattle.stream.proofs.inner.lines.take_lines.Given as goal

abbrev pub invariant-loop-end : goal.invariant-loop-end
invariant-loop-end g l =
    Taking (g.T.Lines.step l.initial.table) (reading_at 0 l.line (g.T.Lines.held l.initial.table l.line)) l.bytes l.at
    l.number (g.T.Lines.held l.table l.number) l.end
    × g.T.Lines.Ready l.table × (g.T.Lines.step l.table ≡ g.T.Lines.step l.initial.table)
    × (g.T.Lines.memory l.table ≡ g.T.Lines.memory l.initial.table)

abbrev pub decreases-loop-end : goal.decreases-loop-end
decreases-loop-end g l = length l.bytes - l.at
