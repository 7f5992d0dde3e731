use Rattle.std.specs.Prelude.{◌≡◌}
use mathlib.Core.Path.{refl, sym, ap, ◌∙◌}
use native.Mathlib.Omega.{arith}
use Rattle.grid.specs.InnerSteps.{line_from, row_of}
use Rattle.grid.proofs.RowLaws.{rows_start, rows_off_rule, rows_next, rows_on, rows_fit_rule, rows_sound_rule}
use mathlib.Core.Bool.{and_comm}
use Rattle.grid.proofs.judge.judge_rows.Goals as goal
use Rattle.grid.proofs.judge.judge_rows.Goals.{After-judge_row}

-- what was judged is the line at `at`
judged : (c : After-judge_row)
    → let a = c.args in
    c.judge_row.result ≡ row_of a.nodata.now (line_from a.s.now c.loop-at.at)
judged c = c.judge_row.ensures ∙ ap (row_of _) c.line_at-line.ensures.line

pub overflow_add-result : goal.overflow_add-result
overflow_add-result c =
    let i = c.loop-at.invariant in
    omega (arith, i.few, i.within, c.requires.2, c.well_formed.0.1)

pub returns-in_default : goal.returns-in_default
returns-in_default c =
    let i = c.loop-at.invariant in (
      rows_off_rule i c.loop-at-test.true
          (sym (judged (goal.at.returns-in_default c).After-judge_row) ∙ c.in_default.is),
      omega (arith, c.requires.1),
    )

pub overflow_add-count : goal.overflow_add-count
overflow_add-count c =
    let i = c.loop-at.invariant in
    omega (arith, i.few, i.within)

pub loop-at-smaller : goal.loop-at-smaller
loop-at-smaller c =
    let l = c.line_at-line.ensures in
    omega (
      arith,
      l.moves c.loop-at-test.true,
      l.passed.inside,
      c.loop-at-test.true,
    )

pub loop-at-preserved : goal.loop-at-preserved
loop-at-preserved c =
    let i = c.loop-at.invariant in
    let l = c.line_at-line in
    let h = c.loop-at-test.true in
    rows_next i h l.result l.ensures c.in-Some.row
    (sym (judged (goal.at.loop-at-preserved c).After-judge_row) ∙ c.in-Some.is)

pub returns : goal.returns
returns c =
    let a = c.args in
    let i = c.loop-at.invariant in
    let h = c.loop-at-test.false in
    let fit = and_comm c.loop-at.fits _ ∙ sym (rows_fit_rule i h a.frame refl) in
    (rows_on i h, refl, refl, fit, sym (rows_sound_rule i h))

pub loop-at-init : goal.loop-at-init
loop-at-init c = rows_start _ _ _ _ _ c.requires.0

pub line_at-line-requires : goal.line_at-line-requires
line_at-line-requires c = c.loop-at.invariant.within

pub slice_bounds-judge_row-count : goal.slice_bounds-judge_row-count
slice_bounds-judge_row-count c = c.line_at-line.ensures.start

pub slice_bounds-judge_row-start : goal.slice_bounds-judge_row-start
slice_bounds-judge_row-start c = c.line_at-line.ensures.start

pub slice_bounds-judge_row-end : goal.slice_bounds-judge_row-end
slice_bounds-judge_row-end c = c.line_at-line.ensures.within
