-- `coupling::fit::values_fit` meets its contract: each test is one of the definition's. Assumes nothing.
use Rattle.std.proofs.Common.{arith}
use Rattle.coupling_rules.specs.Refusals.{values_fit}
use Rattle.coupling.proofs.fit.values_fit.Goals as goal
use Rattle.coupling.proofs.fit.values_fit.Goals.{then-all_exist, else-all_exist, then-all_within, else-all_within}

pub returns-then-all_within-2 : goal.returns-then-all_within-2
unfolding values_fit
returns-then-all_within-2 c =
    elim c.if-all_within.branch [
      | then-all_within w ↦ elim c.if-all_exist.branch [ then-all_exist v ↦ grind arith | else-all_exist v ↦ cc ]
      | else-all_within w ↦ cc
    ]

pub returns-else-all_within-2 : goal.returns-else-all_within-2
unfolding values_fit
returns-else-all_within-2 c =
    elim c.if-all_exist.branch [
      | then-all_exist v ↦
          elim c.if-all_within.branch [ then-all_within w ↦ grind arith | else-all_within w ↦ grind arith ]
      | else-all_exist v ↦ grind arith
    ]
