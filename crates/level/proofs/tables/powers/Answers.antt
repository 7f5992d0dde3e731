-- `level::tables::powers` meets its contract: antt computes the test `x ≡ 10 ^ q` at each of the table's entries.
-- Assumes nothing.
use Rattle.std.specs.Prelude.{◌^◌, eqb}
use lib.Dec.{eqb→eq}
use Rattle.level.proofs.Table.{at}
use Rattle.level.proofs.tables.powers.Reads as reads
use Rattle.level.proofs.tables.powers.Lts as lts
use Rattle.level.proofs.tables.powers.Goals as goal

pub returns : goal.returns
returns c = λ k h. eqb→eq _ _ (at (λ q x. eqb x (10 ^ q)) (lts.m2 reads.Pre reads.Post c.args).0 tt k h)
