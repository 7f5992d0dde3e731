-- `load::verdict_at` meets its contract: 9, 11, 15, and then the verdict on the load of the rows. Assumes nothing.
use mathlib.Core.Path.{refl, sym, ap, ◌∙◌}
use Rattle.std.specs.Prelude.{Ok}
use Rattle.std.proofs.lemmas.Result.{err_from_is_err_and}
use borrow.Author.{Tests.le-leb, Tests.lt-leb}
use Rattle.refusal.proofs.Laws.{numbered}
use Rattle.book_rules.specs.Columns.{Book, book_lent}
use Rattle.load_rules.specs.Shares.{book_shares}
use Rattle.load_rules.specs.Verdict.{limit_fits, verdict_refusal, judged, judged_of, book_verdict}
use Rattle.load_rules.proofs.Determined.{judging}
use Rattle.load.proofs.SumsLaws.{asked_days, asked_fits, asked_shares, asked_verdict, judged_answered, judged_refused}
use Rattle.load.proofs.verdict_at.Goals as goal
use Rattle.load.proofs.verdict_at.Goals.{Start}

abbrev book : Start → Book
book s = book_lent s.args.ids.now s.args.groups.now s.args.marks.now s.args.counts.now s.args.levels.now

pub returns-in_err-asked : goal.returns-in_err-asked
unfolding book_verdict
returns-in_err-asked c =
    let a = c.args in
    let p = err_from_is_err_and c.from_residual.result c.from_residual.ensures.1 in
    rw (p.1, p.2)
    (judging
    (asked_verdict _ (book_shares a.points a.point (book (goal.at.returns-in_err-asked c).Start)) a.days a.limit _
    c.in_err-asked.ensures.number (numbered _)))

pub returns-then-limit-gt-MAX_LIMIT : goal.returns-then-limit-gt-MAX_LIMIT
unfolding book_verdict judged_of verdict_refusal judged limit_fits
returns-then-limit-gt-MAX_LIMIT c =
    let a = c.args in
    let days = asked_days _ a.days (sym c.in_ok-asked.ensures.number) in
    judging (rw (
      asked_fits _ a.days (sym c.in_ok-asked.ensures.number),
      days,
      lt-leb _ _ c.if-limit-gt-MAX_LIMIT.true,
    ) refl)

pub load_of-requires : goal.load_of-requires
load_of-requires c = asked_days _ c.args.days (sym c.in_ok-asked.ensures.number)

pub returns-in_err-load : goal.returns-in_err-load
unfolding book_verdict limit_fits
returns-in_err-load c =
    let a = c.args in
    let days = asked_days _ a.days (sym c.in_ok-asked.ensures.number) in
    let p = err_from_is_err_and c.from_residual-in_err-load.result c.from_residual-in_err-load.ensures.1 in
    rw (p.1, p.2)
    (judging (rw (asked_fits _ a.days (sym c.in_ok-asked.ensures.number), ← asked_shares c.in_ok-asked.ensures.asked)
    (judged_refused _ a.days days _ a.limit
    (le-leb _ _ c.if-limit-gt-MAX_LIMIT.false) c.in_err-load.ensures)))

pub returns : goal.returns
unfolding book_verdict limit_fits
returns c =
    let a = c.args in
    let days = asked_days _ a.days (sym c.in_ok-asked.ensures.number) in
    judging (rw (asked_fits _ a.days (sym c.in_ok-asked.ensures.number), ← asked_shares c.in_ok-asked.ensures.asked)
    (ap Ok c.judge.ensures
    ∙ judged_answered _ a.days days _ a.limit
    (le-leb _ _ c.if-limit-gt-MAX_LIMIT.false) c.in_ok-load.ensures))
