-- `contours::print::parts` meets its contract: what is left of the text is due where the last part ended.
-- Assumes nothing.
use mathlib.Core.{Path.◌≡◌}
use Rattle.std.specs.Prelude.{◌+◌, ◌-◌, min}
use lib.{ListN.length}
use Rattle.wkt.specs.{Text.text_of, InnerParts.Reached, InnerParts.left_of, InnerParts.lines_from}
use Rattle.channel.specs.Due.{Due}
use Rattle.contours_steps.specs.Sheet.{sheet_of}
use Rattle.channel.proofs.Dues.{Rest}
use Rattle.contours.proofs.print.parts.Given as goal

abbrev pub invariant-loop-at : goal.invariant-loop-at
invariant-loop-at l =
    (Reached l.edges l.counts l.closed l.at) × (length l.room ≡ 4096)
    × (Due (sheet_of l.levels l.frame l.asked) l.sent (left_of l.levels l.frame l.v l.edges l.counts l.closed l.at))
    × Rest l.initial.sent (text_of l.levels l.frame l.v (lines_from l.edges l.counts l.closed)) l.sent
    (left_of l.levels l.frame l.v l.edges l.counts l.closed l.at)

abbrev pub decreases-loop-at : goal.decreases-loop-at
decreases-loop-at l =
    length (left_of l.levels l.frame l.v l.edges l.counts l.closed l.at) + min 1 (length l.counts + 1 - l.at.line)
