-- `date::date_exists` meets its contract: the tests are the definition's. Assumes nothing.
use Rattle.std.proofs.Common.{arith}
use Rattle.std.proofs.lemmas.Bool.Decides.{nat_tests}
use Rattle.date.specs.Calendar.{date_exists}
use Rattle.date.proofs.date_exists.Goals as goal
use Rattle.date.proofs.date_exists.Goals.{then-contains, else-contains}

pub returns-then-contains-2 : goal.returns-then-contains-2
unfolding date_exists
returns-then-contains-2 c =
    elim c.if-contains.branch [ then-contains w ↦ grind (arith, nat_tests) | else-contains w ↦ cc ]

pub returns-else-contains-2 : goal.returns-else-contains-2
unfolding date_exists
returns-else-contains-2 c =
    elim c.if-contains.branch [
      | then-contains w ↦ grind (arith, nat_tests)
      | else-contains w ↦ grind (arith, nat_tests)
    ]
