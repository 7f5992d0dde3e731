-- `register::limits_csv::judged_limits` meets its contract: its tests are those of `judged_limits`. Assumes nothing.
use Rattle.std.proofs.Common.{arith}
use Rattle.std.proofs.lemmas.Bool.Decides.{nat_tests}
use Rattle.std.proofs.lemmas.Grind.{common_steps}
use Rattle.register.specs.LimitsFile.{judged_limits}
use Rattle.register.proofs.limits_csv.judged_limits.Goals as goal

pub returns-then-days-eq0 : goal.returns-then-days-eq0
unfolding judged_limits
returns-then-days-eq0 c = grind (arith, common_steps, nat_tests)

pub returns-then-not-all_within : goal.returns-then-not-all_within
unfolding judged_limits
returns-then-not-all_within c = grind (arith, common_steps, nat_tests)

pub returns : goal.returns
unfolding judged_limits
returns c = grind (arith, common_steps, nat_tests)
