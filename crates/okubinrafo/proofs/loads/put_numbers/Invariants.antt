-- `okubinrafo::loads::put_numbers` meets its contract. The invariant: the first k numbers stand at the front.
-- Assumes nothing.
use Prim.Native.Nat.{◌≤◌}
use mathlib.Core.{Path.◌≡◌, List.◌++◌}
use lib.{ListN.length, ListN.take, ListN.drop}
use Rattle.okubinrafo.specs.Loads.{load_size, numbers_from}
use Rattle.okubinrafo.proofs.loads.put_numbers.Given as goal

abbrev pub invariant-loop-k : goal.invariant-loop-k
invariant-loop-k l =
    (length l.answer ≡ length l.initial.answer)
    × (l.answer ≡ take l.k (numbers_from l.load.total l.load.level l.load.counts) ++ drop l.k l.initial.answer)
