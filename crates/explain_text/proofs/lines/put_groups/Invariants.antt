-- `explain_text::lines::put_groups` meets its contract: the lines of the groups passed stand one past the other.
-- Assumes nothing.
use Rattle.std.specs.Prelude.{◌≡◌, ◌*◌, length}
use Rattle.text.specs.Sheet.{ended}
use Rattle.text.specs.InnerWithin.{WroteWithin}
use Rattle.explain_text.specs.{Text.group_lines, InnerRoom.longest_line, InnerNumbers.group_in}
use Rattle.explain_text.proofs.lines.put_groups.Given as goal

abbrev pub invariant-loop-g : goal.invariant-loop-g
invariant-loop-g l =
    WroteWithin (longest_line * l.g) l.initial.out l.initial.next
    (ended (group_lines l.point (group_in l.numbers) l.g)) l.out l.next
    × (length l.out ≡ length l.initial.out)
