-- `report_text::inner::put_points` meets its contract. The loop's invariant: the lines of the points passed stand
-- behind the header. Assumes nothing.
use Rattle.std.specs.Prelude.{◌≡◌, ◌+◌, ◌*◌, ◌≤◌, length}
use Rattle.book_rules.specs.Columns.{book_of}
use Rattle.report_text.specs.InnerRoom.{longest_point}
use Rattle.report_text.proofs.Points.{Passed}
use Rattle.report_text.proofs.inner.put_points.Given as goal

abbrev pub invariant-loop-point : goal.invariant-loop-point
invariant-loop-point l =
    Passed l.points l.days l.limit (book_of l.ids l.groups l.marks l.counts l.levels) l.point l.initial.out
    l.initial.at l.out l.at
    × (l.at ≤ l.initial.at + longest_point * l.point) × (length l.out ≡ length l.initial.out)
