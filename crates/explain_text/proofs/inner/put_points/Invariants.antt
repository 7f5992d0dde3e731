-- `explain_text::inner::put_points` meets its contract: the lines of the points passed stand behind the header.
-- Assumes nothing.
use Rattle.std.specs.Prelude.{◌≡◌, ◌*◌, length}
use Rattle.book_rules.specs.Columns.{book_of}
use Rattle.text.specs.Sheet.{ended}
use Rattle.text.specs.InnerWithin.{WroteWithin}
use Rattle.explain_text.specs.{Text.lines_to, InnerRoom.longest_point}
use Rattle.explain_text.proofs.inner.put_points.Given as goal

abbrev pub invariant-loop-point : goal.invariant-loop-point
invariant-loop-point l =
    WroteWithin (longest_point * l.point) l.initial.out l.initial.at
    (ended (lines_to l.points (book_of l.ids l.groups l.marks l.counts l.levels) l.point))
    l.out l.at
    × (length l.out ≡ length l.initial.out)
