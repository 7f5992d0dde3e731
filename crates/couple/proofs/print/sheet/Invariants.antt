-- `couple::print::sheet` meets its contract: the lines of the movements from i on are due. Assumes nothing.
use Rattle.std.specs.Prelude.{◌≡◌, ◌-◌, ◌≤◌}
use lib.{ListN.length}
use Rattle.channel.specs.Due.{Due}
use Rattle.channel.proofs.Dues.{Rest}
use Rattle.couple_steps.specs.{Sheet.sheet_text, InnerSheet.lines_from}
use Rattle.couple.proofs.print.sheet.Given as goal

abbrev pub invariant-loop-i : goal.invariant-loop-i
invariant-loop-i l =
    (l.i ≤ l.many) × (length l.out ≡ length l.initial.out)
    × (Due (sheet_text l.ids l.numbers l.answers l.many) l.sent (lines_from l.ids l.numbers l.answers l.many l.i))
    × Rest 0 (sheet_text l.ids l.numbers l.answers l.many) l.sent (lines_from l.ids l.numbers l.answers l.many l.i)

abbrev pub decreases-loop-i : goal.decreases-loop-i
decreases-loop-i l = l.many - l.i
