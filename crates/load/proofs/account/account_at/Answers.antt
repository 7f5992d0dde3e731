-- `load::account::account_at` meets its contract: 9, 11, and then the account of the rows. Assumes nothing.
use mathlib.Core.{Path.sym, Path.ap}
use Rattle.std.specs.Prelude.{ℕ, length}
use native.Mathlib.Omega.{arith}
use Rattle.std.proofs.lemmas.Result.{err_from_is_err_and}
use Rattle.refusal.specs.Refusal.{number_of}
use Rattle.refusal.proofs.Laws.{numbered}
use Rattle.room.proofs.Answers.{refuse}
use Rattle.book_rules.specs.Columns.{Book, book_lent}
use Rattle.load_rules.specs.{Shares.book_shares, Load.refused_load, Load.book_load, Told.LoadTold}
use Rattle.load_rules.specs.Account.{account_of}
use Rattle.load.proofs.{RowLaws.rows_bounded, RowLaws.rows_grouped}
use Rattle.load.proofs.SumsLaws.{asked_days, asked_fits, asked_shares}
use Rattle.load.proofs.SumsLaws.{asked_load}
use Rattle.load.specs.InnerSteps.{book_asked, shares_asked}
use Rattle.load.proofs.AccountLaws.{account_shares}
use Rattle.load.proofs.account.account_at.Goals as goal
use Rattle.load.proofs.account.account_at.Goals.{Start}

abbrev refused : LoadTold → ℕ
refused a = a.refused

abbrev book : Start → Book
book s = book_lent s.args.ids.now s.args.groups.now s.args.marks.now s.args.counts.now s.args.levels.now

pub returns-in_err-asked : goal.returns-in_err-asked
unfolding book_load refused_load
returns-in_err-asked c =
    let a = c.args in
    let p = err_from_is_err_and c.from_residual.result c.from_residual.ensures.1 in
    rw (p.1, p.2)
    (refuse {k = number_of c.in_err-asked.field-0.0} (ap refused
    (sym (asked_load _ (book_shares a.points a.point (book (goal.at.returns-in_err-asked c).Start)) a.days _
    c.in_err-asked.ensures.number (numbered _))))
    (λ z. omega (arith, numbered c.in_err-asked.field-0.0)))

pub put_account-requires : goal.put_account-requires
unfolding book_shares
put_account-requires c =
    let a = c.in_ok-asked.asked in
    record {
      bounded = rw c.groups_of.ensures (rows_bounded a.points a.point (book_asked a) a.sound a.there);
      days_value = asked_days _ c.args.days (sym c.in_ok-asked.ensures.number);
    }

pub returns : goal.returns
unfolding book_load account_of book_shares
returns c =
    let a = c.in_ok-asked.asked in
    let e = sym c.in_ok-asked.ensures.number in
    rw (asked_fits _ c.args.days e, ← asked_shares c.in_ok-asked.ensures.asked)
    (account_shares (shares_asked a) c.args.days (asked_days _ c.args.days e)
    (rows_grouped a.points a.point (book_asked a) a.sound a.there (length a.ids.now) (omega arith))
    c.groups_of.ensures c.put_account.ensures)
