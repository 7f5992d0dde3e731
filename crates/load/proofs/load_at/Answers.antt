-- `load::load_at` meets its contract: 9, 11, and then the load of the rows. Assumes nothing.
use mathlib.Core.Path.{sym}
use Rattle.std.proofs.lemmas.Result.{err_from_is_err_and}
use Rattle.refusal.proofs.Laws.{numbered}
use Rattle.book_rules.specs.Columns.{Book, book_lent}
use Rattle.load_rules.specs.Shares.{book_shares}
use Rattle.load_rules.specs.Load.{book_load}
use Rattle.load.proofs.SumsLaws.{asked_days, asked_fits, asked_shares, asked_load}
use Rattle.load.proofs.load_at.Goals as goal
use Rattle.load.proofs.load_at.Goals.{Start}

abbrev book : Start → Book
book s = book_lent s.args.ids.now s.args.groups.now s.args.marks.now s.args.counts.now s.args.levels.now

pub returns-in_err-asked : goal.returns-in_err-asked
unfolding book_load
returns-in_err-asked c =
    let a = c.args in
    let p = err_from_is_err_and c.from_residual.result c.from_residual.ensures.1 in
    rw (p.1, p.2)
    (asked_load _ (book_shares a.points a.point (book (goal.at.returns-in_err-asked c).Start)) a.days _
    c.in_err-asked.ensures.number (numbered _))

pub load_of-requires : goal.load_of-requires
load_of-requires c = asked_days _ c.args.days (sym c.in_ok-asked.ensures.number)

pub returns : goal.returns
unfolding book_load
returns c =
    rw (asked_fits _ c.args.days (sym c.in_ok-asked.ensures.number), ← asked_shares c.in_ok-asked.ensures.asked)
    c.load_of.ensures
