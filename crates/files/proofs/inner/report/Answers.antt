-- `files::inner::report` meets its contract: of the counts and levels as many are lent on as the points need, and the
-- columns are an empty book. Assumes nothing.
use mathlib.Core.Path.{sym}
use Rattle.std.specs.Prelude.{◌*◌, ◌≤◌}
use native.Mathlib.Omega.{arith}
use lib.{ListN.length, Seq.length-take-le}
use Rattle.movement.specs.Limits.{max_points}
use Rattle.book_rules.specs.Columns.{Book, book_of}
use Rattle.report_rules.specs.Report.{book_rows}
use Rattle.files.proofs.Cleared.{cleared, cleared_counts, cleared_levels}
use Rattle.files.proofs.inner.report.Goals as goal
use Rattle.files.proofs.inner.report.Goals.{Start}

-- the book at the start, and that eight points have room in both columns
abbrev book : Start → Book
book s =
    let a = s.args in book_of a.ids.now a.groups.now a.marks.now a.counts.now a.levels.now

fewer : (s : Start) → book_rows * s.args.limits.points ≤ book_rows * max_points
fewer s = omega (arith, s.requires.limits_fit.0.few)

counts-room : (s : Start) → book_rows * s.args.limits.points ≤ length s.args.counts.now
counts-room s = omega (arith, fewer s, cleared_counts max_points book_rows (book s) s.requires.levels_value)

levels-room : (s : Start) → book_rows * s.args.limits.points ≤ length s.args.levels.now
levels-room s = omega (arith, fewer s, cleared_levels max_points book_rows (book s) s.requires.levels_value)

pub report_in-requires : goal.report_in-requires
report_in-requires c =
    let s = (goal.at.report_in-requires c).Start in
    record {
      levels_value = cleared c.args.limits.points book_rows max_points (book s) c.requires.levels_value (fewer s);
      limits_fit = c.requires.limits_fit;
    }

pub slice_bounds-report_in-end : goal.slice_bounds-report_in-end
slice_bounds-report_in-end c = counts-room (goal.at.slice_bounds-report_in-end c).Start

pub slice_bounds-report_in-end-2 : goal.slice_bounds-report_in-end-2
slice_bounds-report_in-end-2 c = sym (length-take-le _ _ (counts-room (goal.at.slice_bounds-report_in-end-2 c).Start))

pub slice_bounds-report_in-end-3 : goal.slice_bounds-report_in-end-3
slice_bounds-report_in-end-3 c = levels-room (goal.at.slice_bounds-report_in-end-3 c).Start

pub slice_bounds-report_in-end-4 : goal.slice_bounds-report_in-end-4
slice_bounds-report_in-end-4 c = sym (length-take-le _ _ (levels-room (goal.at.slice_bounds-report_in-end-4 c).Start))
