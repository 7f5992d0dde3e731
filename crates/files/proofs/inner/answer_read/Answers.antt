-- `files::inner::answer_read` meets its contract: a refusal's one line, or the report of the book. Assumes nothing.
use Rattle.std.proofs.Common.{refl, arith}
use Rattle.refusal.proofs.Laws.{numbered}
use Rattle.book_rules.specs.Columns.{Book, book_of}
use Rattle.register.specs.LimitsFile.{accepted_limits}
use Rattle.files.proofs.Texts.{sized_refused, sized_report}
use Rattle.files.specs.Kinds.{telling_of}
use Rattle.files.proofs.inner.answer_read.Goals as goal
use Rattle.files.proofs.inner.answer_read.Goals.{Start}

abbrev book : Start → Book
book s =
    let a = s.args in book_of a.ids.now a.groups.now a.marks.now a.counts.now a.levels.now

pub returns-in-Err : goal.returns-in-Err
returns-in-Err c =
    let low = numbered c.in-Err.why in
    rw c.in-Err.is
    (sized_refused (telling_of c.args.kind) (accepted_limits c.args.limits) (book (goal.at.returns-in-Err c).Start)
    (λ e. absurd (omega arith)) c.refuse.ensures)

pub returns-in-Ok : goal.returns-in-Ok
returns-in-Ok c =
    rw c.in-Ok.is
    (sized_report (telling_of c.args.kind) (accepted_limits c.args.limits) (book (goal.at.returns-in-Ok c).Start) c.args.read.line refl
    c.put_told-made.ensures.wrote)
