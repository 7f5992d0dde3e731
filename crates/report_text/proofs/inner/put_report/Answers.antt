-- `report_text::inner::put_report` meets its contract: the one line of rule 10, or the header and the points. Assumes
-- nothing.
use mathlib.Core.Path.{refl, ◌∙◌}
use native.Mathlib.Omega.{arith}
use Rattle.refusal.proofs.Laws.{numbered}
use Rattle.book_rules.specs.Columns.{Book, book_of}
use Rattle.report_text.specs.Text.{book_text}
use Rattle.register.specs.LimitsFile.{accepted_limits}
use Rattle.report_text.proofs.Points.{text_refused, text_points}
use Rattle.report_text.proofs.inner.put_report.Goals as goal
use Rattle.report_text.proofs.inner.put_report.Goals.{Start}

abbrev book : Start → Book
book s =
    let a = s.args in book_of a.ids.now a.groups.now a.marks.now a.counts.now a.levels.now

pub returns-in-Err : goal.returns-in-Err
unfolding book_text
returns-in-Err c =
    let q = c.number.ensures ∙ c.in-Err.ensures in
    record {
      wrote = text_refused (accepted_limits c.args.limits) (book (goal.at.returns-in-Err c).Start) _ q
          (λ z. let some = numbered c.in-Err.why in omega (arith, c.number.ensures, z))
          c.put_refused-size.ensures.wrote;
      refused = c.in-Err.ensures;
    }

pub returns-in-Ok : goal.returns-in-Ok
unfolding book_text
returns-in-Ok c =
    let q = c.in-Ok.ensures in
    record {
      wrote = text_points (accepted_limits c.args.limits) (book (goal.at.returns-in-Ok c).Start) q refl
          c.put_points-size.ensures;
      refused = c.book_refusal-outcome.ensures;
    }
