-- `grid::judge::judge_row` meets its contract. Assumes nothing.
use mathlib.Core.Path.{sym, ◌∙◌}
use Rattle.grid.proofs.ValueLaws.{end_within, value_off_rule, value_on, row_off, row_last, row_next}
use Rattle.grid.proofs.judge.judge_row.Goals as goal

pub returns-in_err-fine : goal.returns-in_err-fine
returns-in_err-fine c =
    let end = c.field_end-end in
    c.from_residual.ensures ∙ sym (row_off c.loop-fine.invariant end.result end.ensures
    (value_off_rule _ _ (sym c.in_err-fine.ensures)))

pub returns-then-s-end : goal.returns-then-s-end
returns-then-s-end c =
    let end = c.field_end-end in
    let v = value_on _ _ _ (sym c.in_ok-fine.ensures) in
    sym (row_last c.loop-fine.invariant end.result end.ensures c.if-s-end.true v.0 ∙ rw v.1)

pub loop-fine-preserved : goal.loop-fine-preserved
loop-fine-preserved c =
    let end = c.field_end-end in
    let v = value_on _ _ _ (sym c.in_ok-fine.ensures) in
    rw (← v.1) (row_next c.loop-fine.invariant end.result end.ensures c.if-s-end.false v.0)

pub slice_bounds-judge_value-end : goal.slice_bounds-judge_value-end
slice_bounds-judge_value-end c = end_within _ _ _ c.loop-fine.invariant.within c.field_end-end.ensures
