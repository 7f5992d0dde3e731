-- `report_steps::inner::feeding::take_line` meets its contract: the header, or a row. Assumes nothing.
use Rattle.std.proofs.Common.{sym, ap, ◌∙◌}
use Rattle.std.proofs.lemmas.Result.{err_from_is_err_and}
use Rattle.refusal.specs.Refusal.{told}
use Rattle.book_rules.specs.Columns.{book_of}
use Rattle.report_steps.proofs.{Intakes.told_taken, Takings.header_taken, Takings.row_taken_lem}
use Rattle.report_steps.proofs.inner.feeding.take_line.Goals as goal

pub returns-then-number-eq1 : goal.returns-then-number-eq1
returns-then-number-eq1 c =
    let a = c.args in
    let b = book_of a.ids.now a.groups.now a.marks.now a.counts.now a.levels.now in
    header_taken a.points a.number _ b a.line.now c.if-number-eq1.true c.header_refusal.ensures

pub returns-in_err-take_row : goal.returns-in_err-take_row
returns-in_err-take_row c =
    let p = err_from_is_err_and c.from_residual.result c.from_residual.ensures.1 in
    rw (p.1, p.2)
    (row_taken_lem c.if-number-eq1.false c.take_row.ensures.taken
    (ap told (sym c.in_err-take_row.was) ∙ told_taken c.take_row.result))

pub returns : goal.returns
returns c =
    row_taken_lem c.if-number-eq1.false c.take_row.ensures.taken
    (ap told (sym c.in_ok-take_row.was) ∙ told_taken c.take_row.result)
