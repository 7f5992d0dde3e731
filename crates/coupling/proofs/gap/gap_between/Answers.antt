-- `coupling::gap::gap_between` meets its contract: two classes are one exactly if both of their numbers are. Assumes
-- nothing.
use Rattle.std.proofs.Common.{arith}
use Rattle.std.proofs.lemmas.Bool.Decides.{nat_tests}
use Rattle.coupling_rules.specs.InnerPacked.{ranked, gap_between}
use Rattle.coupling.proofs.gap.gap_between.Goals as goal
use Rattle.coupling.proofs.gap.gap_between.Goals.{else-track-w-via-then-track-w+then-track-w-2+else-seconds-window}
use Rattle.coupling.proofs.gap.gap_between.Goals.{else-track-w-via-then-track-w+else-track-w-2}
use Rattle.coupling.proofs.gap.gap_between.Goals.{else-track-w-via-else-track-w}

pub returns-in_err-window : goal.returns-in_err-window
unfolding gap_between
returns-in_err-window c = grind (arith, nat_tests)

pub returns-then-seconds-window : goal.returns-then-seconds-window
unfolding gap_between ranked
returns-then-seconds-window c = let e = c.in_ok-window.was in grind (arith, nat_tests, e)

pub returns-else-track-w : goal.returns-else-track-w
unfolding gap_between ranked
returns-else-track-w c =
    let e = c.in_ok-window.was in
    elim c.else-track-w.branch [
      | else-track-w-via-then-track-w+then-track-w-2+else-seconds-window w ↦ grind (arith, nat_tests, e)
      | else-track-w-via-then-track-w+else-track-w-2 w ↦ grind (arith, nat_tests, e)
      | else-track-w-via-else-track-w w ↦ grind (arith, nat_tests, e)
    ]
