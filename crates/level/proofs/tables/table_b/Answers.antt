-- `level::tables::table_b` meets its contract: the table's rule is a test at each of its entries, which antt computes.
-- Assumes nothing.
use mathlib.Core.Path.{ap, ◌∙◌}
use Rattle.std.specs.Prelude.{ℕ, ◌+◌, ◌*◌, ◌^◌}
use native.Mathlib.Omega.{arith}
use lib.Dec.{lit<}
use Rattle.level.specs.Tables.{largest_root, table_b}
use Rattle.level.proofs.RootLaws.{roots_at, shift}
use Rattle.level.proofs.tables.table_b.Reads as reads
use Rattle.level.proofs.tables.table_b.Lts as lts
use Rattle.level.proofs.tables.table_b.Goals as goal

pub returns : goal.returns
unfolding table_b
returns c =
    λ k h. roots_at 50 40 (10 ^ 280) (lit< tt) (λ i. 10 ^ (801 + 2 * i))
    (lts.m2 reads.Pre reads.Post c.args).0 (lit< tt) tt k h
    ∙ ap (largest_root 2000) (shift 801 11200 (2 * k) ∙ ap (λ (n : ℕ). 10 ^ n) (omega arith))
