-- `grid::head::key_number` meets its contract. Assumes nothing.
use mathlib.Core.Path.{sym, ap, ◌∙◌}
use Rattle.text.specs.Number.{whole_of}
use Rattle.grid.specs.File.{number_after, begins}
use Rattle.grid.proofs.HeadLaws.{same_pointwise}
use Rattle.grid.proofs.head.key_number.Goals as goal

pub returns-in_err-strip_prefix : goal.returns-in_err-strip_prefix
unfolding number_after begins
returns-in_err-strip_prefix c =
    let no = sym (same_pointwise _ c.args.key.now) ∙ c.in_err-strip_prefix.ensures.cases in
    rw no c.from_residual.ensures

pub returns : goal.returns
unfolding number_after begins
returns c =
    let rest = c.in_ok-strip_prefix.ensures.cases in
    let yes = sym (same_pointwise _ c.args.key.now) ∙ rest.0 in
    rw yes (c.whole.ensures ∙ ap whole_of rest.1)
