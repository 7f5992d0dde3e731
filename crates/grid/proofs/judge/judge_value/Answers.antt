-- `grid::judge::judge_value` meets its contract. Assumes nothing.
use mathlib.Core.{Path.◌≡◌, Path.sym, Path.◌∙◌, Bool.false}
use Rattle.text.specs.Same.{same_text}
use Rattle.grid.proofs.HeadLaws.{same_pointwise}
use Rattle.grid.proofs.ValueLaws.{none_here, level_here, neither_here}
use Rattle.grid.proofs.judge.judge_value.Goals as goal
use Rattle.grid.proofs.judge.judge_value.Goals.{Else-eq}

-- the text is not that of no data
other : (c : Else-eq) → same_text c.args.s.now c.args.nodata.now ≡ false
other c = sym (same_pointwise _ _) ∙ sym c.eq.ensures ∙ c.if-eq.false

pub returns-then-eq : goal.returns-then-eq
returns-then-eq c = sym (none_here _ _ (sym (same_pointwise _ _) ∙ sym c.eq.ensures ∙ c.if-eq.true))

pub returns-in_err-thousandths : goal.returns-in_err-thousandths
returns-in_err-thousandths c =
    c.from_residual.ensures ∙ sym (neither_here _ _ (other (goal.at.returns-in_err-thousandths c).Else-eq)
    (sym c.in_err-thousandths.ensures))

pub returns : goal.returns
returns c = sym (level_here _ _ _ (other (goal.at.returns c).Else-eq) (sym c.in_ok-thousandths.ensures))
