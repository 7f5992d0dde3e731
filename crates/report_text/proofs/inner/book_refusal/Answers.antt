use Rattle.std.specs.Prelude.{◌≡◌, ℕ}
use native.Mathlib.Omega.{arith}
use mathlib.Core.Path.{sym, ap, ◌∙◌}
use Rattle.std.proofs.lemmas.Result.{err_from_is_err_and}
use Rattle.refusal.specs.Refusal.{number_of}
use Rattle.refusal.proofs.Laws.{numbered}
use Rattle.book_rules.specs.Columns.{Book, book_of}
use Rattle.load_rules.specs.Load.{refused_load, book_load}
use Rattle.load_rules.specs.Told.{LoadTold}
use Rattle.report_text.proofs.Judging.{none_judged, one_answered, one_refused}
use Rattle.report_text.proofs.inner.book_refusal.Goals as goal
use Rattle.report_text.proofs.inner.book_refusal.Goals.{Start}

abbrev book : Start → Book
book s =
    let a = s.args in book_of a.ids.now a.groups.now a.marks.now a.counts.now a.levels.now

-- the refusal alone
abbrev refused : LoadTold → ℕ
refused a = a.refused

pub returns-in_err-load_at : goal.returns-in_err-load_at
unfolding refused_load
returns-in_err-load_at c =
    let a = c.args in
    let why = c.in_err-load_at.field-0.0 in
    let p = err_from_is_err_and c.from_residual.result c.from_residual.ensures.1 in
    let b = book (goal.at.returns-in_err-load_at c).Start in
    let q : number_of why ≡ (book_load a.points c.loop-point.point b a.days).refused =
    ap refused c.in_err-load_at.ensures in
    rw (p.1, p.2)
    (q ∙ sym (one_refused a.points a.days (book (goal.at.returns-in_err-load_at c).Start) c.loop-point.point a.points
    c.loop-point.invariant (λ z. let some = numbered why in omega (arith, q, z)) c.loop-point-test.true))

pub loop-point-preserved : goal.loop-point-preserved
loop-point-preserved c =
    let a = c.args in
    one_answered a.points a.days (book (goal.at.loop-point-preserved c).Start) c.loop-point.point
    c.loop-point.invariant (sym (ap refused c.in_ok-load_at.ensures))

pub loop-point-init : goal.loop-point-init
loop-point-init c = none_judged _ _ _
