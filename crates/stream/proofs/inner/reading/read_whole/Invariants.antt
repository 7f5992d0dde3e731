-- `stream::inner::reading::read_whole` meets its contract: all bytes that came, and where their reading stands.
-- Assumes nothing.
use Rattle.std.specs.Prelude.{◌≡◌, ◌-◌, ◌^◌, length}
use Rattle.channel.specs.Input.{origin_of}
use Rattle.stream.specs.InnerFeeding.{Come}
use Rattle.stream.proofs.inner.reading.read_whole.Given as goal

abbrev pub invariant-loop-left : goal.invariant-loop-left
invariant-loop-left g l =
    Come (origin_of l.opened l.name) (g.T.Lines.step l.initial.table) g.T.Lines.LONGEST
    (g.T.Lines.held l.initial.table 1) l.bytes l.left l.line l.taken (g.T.Lines.held l.table l.line)
    × g.T.Lines.Ready l.table × (g.T.Lines.step l.table ≡ g.T.Lines.step l.initial.table)
    × (g.T.Lines.memory l.table ≡ g.T.Lines.memory l.initial.table)
    × (length l.bytes ≡ length l.initial.bytes)

abbrev pub decreases-loop-left : goal.decreases-loop-left
decreases-loop-left g l = 2 ^ 64 - l.taken
