-- `stream::inner::filling::fill_whole` meets its contract: all bytes that came, and where their reading stands.
-- Assumes nothing.
use Rattle.std.specs.Prelude.{◌≡◌, ◌-◌, ◌^◌, length}
use Rattle.channel.specs.Input.{origin_of}
use Rattle.stream.specs.InnerFeeding.{Come}
use Rattle.stream.proofs.inner.filling.fill_whole.Given as goal

abbrev pub invariant-loop-left : goal.invariant-loop-left
invariant-loop-left g l =
    Come (origin_of l.opened l.name) (g.T.Table.step l.initial.table) g.T.Table.LONGEST
    (g.T.Table.held l.initial.table 1) l.bytes l.left l.line l.taken (g.T.Table.held l.table l.line)
    × g.T.Table.Ready l.table × (g.T.Table.step l.table ≡ g.T.Table.step l.initial.table)
    × (g.T.Table.memory l.table ≡ g.T.Table.memory l.initial.table)
    × (length l.bytes ≡ length l.initial.bytes)

abbrev pub decreases-loop-left : goal.decreases-loop-left
decreases-loop-left g l = 2 ^ 64 - l.taken
