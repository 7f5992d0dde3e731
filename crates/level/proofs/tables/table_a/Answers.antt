-- `level::tables::table_a` meets its contract: the table's rule is a test at each of its entries, which antt computes.
-- Assumes nothing.
use mathlib.Core.Path.{ap, ◌∙◌}
use Rattle.std.specs.Prelude.{◌+◌, ◌^◌}
use lib.Dec.{lit<}
use Rattle.level.specs.Tables.{largest_root, table_a}
use Rattle.level.proofs.RootLaws.{roots_at, shift}
use Rattle.level.proofs.tables.table_a.Reads as reads
use Rattle.level.proofs.tables.table_a.Lts as lts
use Rattle.level.proofs.tables.table_a.Goals as goal

pub returns : goal.returns
unfolding table_a
returns c =
    λ k h. roots_at 25 40 (10 ^ 130) (lit< tt) (λ i. 10 ^ (800 + i)) (lts.m2 reads.Pre reads.Post c.args).0
    (lit< tt) tt k h
    ∙ ap (largest_root 1000) (shift 800 5200 k)
