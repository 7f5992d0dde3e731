-- `level::inner::energy` meets its contract: the tables hold A(k) and 10^q, and their product is at most 10^19.
-- Assumes nothing.
use Rattle.std.specs.Prelude.{◌≡◌, ◌/◌, ◌%◌, ◌^◌}
use native.Mathlib.{Nat.lt_of_le_of_lt, Omega.arith}
use lib.{Dec.lit<, ListN.get_or}
use Rattle.level.specs.{Tables.table_a, Energy.energy_of}
use Rattle.level.proofs.EnergyLaws.{product_le}
use Rattle.level.proofs.inner.energy.Goals as goal
use Rattle.level.proofs.inner.energy.Goals.{Start}

-- the two numbers that are read
of-a : (s : Start) → get_or s.args.a.now (s.args.c % 1000) 0 ≡ table_a (s.args.c % 1000)
of-a s = s.requires.1 (s.args.c % 1000) (omega arith)

of-powers : (s : Start) → get_or s.args.powers.now (s.args.c / 1000) 0 ≡ 10 ^ (s.args.c / 1000)
of-powers s = s.requires.2 (s.args.c / 1000) (omega arith)

pub overflow_mul-result : goal.overflow_mul-result
overflow_mul-result c =
    record {
      fits = rw (of-a (goal.at.overflow_mul-result c).Start, of-powers (goal.at.overflow_mul-result c).Start)
          (lt_of_le_of_lt (product_le c.args.c c.requires.0) (lit< tt));
    }

pub returns : goal.returns
returns c = unfold energy_of in rw (of-a (goal.at.returns c).Start, of-powers (goal.at.returns c).Start)
