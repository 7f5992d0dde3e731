-- `coupling::inner::flights` meets its contract: each column is its part of the table. Assumes nothing.
use mathlib.Core.Path.{◌≡◌, refl}
use mathlib.Core.Bool.{Bool, true, false}
use Rattle.std.specs.Prelude.{ℕ, List, ◌+◌, ◌*◌, ◌<◌, ◌≤◌, length, take, drop, get_or, nat_lt}
use native.Mathlib.Omega.{arith}
use lib.ListN.{get_or-eq_default}
use Rattle.std.proofs.Common.{get_or-drop, length-take}
use lib.Seq.{get_or-take}
use borrow.Author.Tests.{ltb-true, ltb-false}
use Rattle.coupling.proofs.Answering.{same_flights}
use Rattle.coupling.proofs.inner.flights.Goals as goal

-- what a part of a table holds is the table's
part_fits : (table : List ℕ) (k n j : ℕ) → ((i : ℕ) → get_or table i 0 < 4294967296)
    → get_or (take n (drop k table)) j 0 < 4294967296
part_fits table k n j h = by (nat_lt j n) refl
  where
    by : (t : Bool) → nat_lt j n ≡ t → get_or (take n (drop k table)) j 0 < 4294967296
    by true e = omega (arith, get_or-take n (drop k table) j 0 (ltb-true j n e), get_or-drop k table j 0, h (k + j))
    by false e =
        let past : length (take n (drop k table)) ≤ j = omega (arith, length-take n (drop k table), ltb-false j n e) in
        omega (arith, get_or-eq_default (take n (drop k table)) 0 past)

pub invariant_of-result : goal.invariant_of-result
invariant_of-result c =
    let t = c.args.table.now in
    let n = c.args.n in
    let fits : (i : ℕ) → get_or t i 0 < 4294967296 = λ i. omega (arith, c.type_inv.table i) in
    record {
      runway = λ j. rw c.column-5.ensures (part_fits t (5 * 50000) n j fits);
      designator = λ j. rw c.column-7.ensures (part_fits t (7 * 50000) n j fits);
    }

pub returns : goal.returns
returns c =
    same_flights c.column.ensures c.column-2.ensures c.column-3.ensures c.column-4.ensures c.column-5.ensures
    c.column-6.ensures c.column-7.ensures
