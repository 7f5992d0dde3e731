-- `report_text::inner::book_refusal` meets its contract. The loop's invariant: the points passed are answered.
-- Assumes nothing.
use Rattle.std.specs.Prelude.{◌≡◌}
use Rattle.book_rules.specs.Columns.{book_of}
use Rattle.report_text.specs.Text.{refused_to}
use Rattle.report_text.proofs.inner.book_refusal.Given as goal

abbrev pub invariant-loop-point : goal.invariant-loop-point
invariant-loop-point l =
    refused_to l.points l.days (book_of l.ids l.groups l.marks l.counts l.levels) l.point ≡ 0
