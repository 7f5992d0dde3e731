-- `contours::print::lines` meets its contract: the lines of the levels from i on are due. Assumes nothing.
use Rattle.std.specs.Prelude.{drop}
use Rattle.channel.specs.Due.{Due}
use Rattle.contours_steps.specs.Sheet.{level_lines, sheet_of}
use Rattle.channel.proofs.Dues.{Rest}
use Rattle.contours.proofs.print.lines.Given as goal

abbrev pub invariant-loop-i : goal.invariant-loop-i
invariant-loop-i l =
    Due (sheet_of l.levels l.frame l.asked) l.sent (level_lines l.levels l.frame (drop l.i l.asked))
    × Rest 0 (sheet_of l.levels l.frame l.asked) l.sent (level_lines l.levels l.frame (drop l.i l.asked))
