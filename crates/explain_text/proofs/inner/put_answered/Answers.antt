-- `explain_text::inner::put_answered` meets its contract: the account is answered, and its numbers are those of the
-- text. Assumes nothing.
use mathlib.Core.Path.{ap}
use native.Mathlib.Omega.{arith}
use Rattle.refusal.proofs.Laws.{numbered}
use Rattle.text.specs.Sheet.{ended}
use Rattle.book_rules.specs.Columns.{Book, book_lent}
use Rattle.text.proofs.Within.{within_is}
use Rattle.explain_text.proofs.Told.{answer_only, answer_told, account_long, book_lines, book_adds_up}
use Rattle.explain_text.proofs.inner.put_answered.Goals as goal
use Rattle.explain_text.proofs.inner.put_answered.Goals.{Start}

abbrev book : Start → Book
book s = book_lent s.args.ids.now s.args.groups.now s.args.marks.now s.args.counts.now s.args.levels.now

pub put_point-requires : goal.put_point-requires
put_point-requires c =
    let numbers = answer_only c.account_at.ensures c.requires.days_value
    (omega (arith, account_long c.args.points c.args.point (book (goal.at.put_point-requires c).Start) c.args.days))
    in (
      c.requires.point_lt_max_points.0,
      book_adds_up c.args.points c.args.point (book (goal.at.put_point-requires c).Start) c.args.days
          c.requires.days_value _ numbers,
      omega (arith, c.requires.point_lt_max_points.1),
    )

pub returns-in-Ok : goal.returns-in-Ok
returns-in-Ok c =
    let numbers = answer_only c.account_at.ensures c.requires.days_value
    (omega (arith, account_long c.args.points c.args.point (book (goal.at.returns-in-Ok c).Start) c.args.days)) in
    within_is c.put_point.ensures
    (ap ended (book_lines c.args.points c.args.point (book (goal.at.returns-in-Ok c).Start) c.args.days
    c.requires.days_value _ numbers))

pub returns-in-Err : goal.returns-in-Err
returns-in-Err c =
    let a = c.args in
    let told = answer_told c.in-Err.ensures c.requires.days_value
    (omega (arith, account_long a.points a.point (book (goal.at.returns-in-Err c).Start) a.days)) in
    absurd (let some = numbered c.in-Err.field-0 in omega arith)
