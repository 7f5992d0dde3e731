-- `grid::judge::judge` meets its contract. Assumes nothing.
use mathlib.Core.Path.{◌≡◌, sym, subst}
use Rattle.std.proofs.Common.{rules, Err}
use Rattle.grid.specs.InnerSteps.{file_read}
use Rattle.grid.proofs.FileLaws.{file_on, file_off}
use Rattle.grid.proofs.judge.judge.Goals as goal

pub returns-in_err-head : goal.returns-in_err-head
returns-in_err-head c =
    let e : c.from_residual.result ≡ Err c.in_err-head.field-0.0 = search rules in
    let off = c.in_err-head.ensures in
    subst (file_read _) (sym e) (file_off _ _ off.0 off.1)

pub returns : goal.returns
returns c =
    let h = c.in_ok-head.ensures in
    file_on c.args.s.now _ h.3 _ h.0 h.1 c.judge_body.result c.judge_body.ensures
