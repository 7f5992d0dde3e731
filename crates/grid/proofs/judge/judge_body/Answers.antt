-- `grid::judge::judge_body` meets its contract. Assumes nothing.
use mathlib.Core.Path.{◌≡◌, sym, subst}
use Rattle.std.proofs.Common.{rules, Ok, Err}
use Rattle.grid.specs.InnerSteps.{body_read, no_data_read}
use Rattle.grid.proofs.FileLaws.{body_named, body_off}
use Rattle.grid.proofs.judge.judge_body.Goals as goal

pub returns-in_err-named : goal.returns-in_err-named
returns-in_err-named c =
    let e : c.from_residual.result ≡ Err c.in_err-named.field-0.0 = search rules in
    let off = c.in_err-named.ensures in
    let a = c.args in
    subst (body_read a.s.now a.at a.frame) (sym e) (body_off a.s.now a.at a.frame off.0 off.1 _ off.2)

pub returns-in-Some : goal.returns-in-Some
returns-in-Some c =
    let a = c.args in
    let n = subst (λ o. no_data_read a.s.now a.at (Ok o)) c.in-Some.is c.in_ok-named.ensures in
    body_named a.s.now a.at a.frame _ _ n.0 n.1 n.4 n.5 c.judge_rows.result c.judge_rows.ensures
