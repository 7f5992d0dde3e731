-- `contours_steps::inner::intake::line_begun` meets its contract: the line ends before `at` are counted.
-- Assumes nothing.
use Rattle.std.specs.Prelude.{◌-◌, length}
use Rattle.contours_steps.proofs.Begun.{Counting}
use Rattle.contours_steps.proofs.inner.intake.line_begun.Given as goal

abbrev pub invariant-loop-end : goal.invariant-loop-end
invariant-loop-end l = Counting l.text l.at l.line l.end

abbrev pub decreases-loop-end : goal.decreases-loop-end
decreases-loop-end l = length l.text - l.at
