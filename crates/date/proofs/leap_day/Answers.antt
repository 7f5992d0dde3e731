-- `date::leap_day` meets its contract: each way through the test. Assumes nothing.
use Rattle.std.proofs.Common.{arith}
use Rattle.std.proofs.lemmas.Bool.Decides.{nat_tests}
use Rattle.date.specs.Calendar.{leap_day}
use Rattle.date.proofs.leap_day.Goals as goal
use Rattle.date.proofs.leap_day.Goals.{then-y-eq0, else-y-eq0+then-y-ne0, else-y-eq0+else-y-ne0}

pub returns : goal.returns
unfolding leap_day
returns c =
    elim c.if-y-eq0.branch [
      | then-y-eq0 w ↦ grind (arith, nat_tests)
      | else-y-eq0+then-y-ne0 w ↦ grind (arith, nat_tests)
      | else-y-eq0+else-y-ne0 w ↦ grind (arith, nat_tests)
    ]
