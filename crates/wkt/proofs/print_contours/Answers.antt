-- `wkt::print_contours` meets its contract. Assumes nothing.
use Rattle.std.specs.Prelude.{◌≡◌}
use mathlib.Core.Path.{sym, ap, ◌∙◌}
use native.Mathlib.Omega.{arith}
use Rattle.std.proofs.Common.{rules, Err}
use Rattle.refusal.specs.Refusal.{told}
use Rattle.refusal.proofs.Laws.{numbered}
use Rattle.room.proofs.Answers.{fault_two}
use Rattle.network.specs.Refusals.{contour_refusal}
use Rattle.network.proofs.Refusals.{contour_not_refused}
use Rattle.wkt.proofs.print_contours.Goals as goal
use Rattle.wkt.proofs.print_contours.Goals.{In_ok-contour_refusal}

-- past the test nothing of the network is refused
right : (c : In_ok-contour_refusal) → let a = c.args in
    contour_refusal a.levels.now a.frame a.v ≡ 0
right c = sym c.in_ok-contour_refusal.ensures

pub print_checked-requires : goal.print_checked-requires
print_checked-requires c =
    let a = c.args in
    (contour_not_refused a.levels.now a.frame a.v (right (goal.at.print_checked-requires c).In_ok-contour_refusal)).0

pub returns : goal.returns
returns c =
    rw (right (goal.at.returns c).In_ok-contour_refusal) c.print_checked.ensures

pub returns-in_err-contour_refusal : goal.returns-in_err-contour_refusal
returns-in_err-contour_refusal c =
    let why = c.in_err-contour_refusal.field-0.0 in
    let e : c.from_residual.result ≡ Err why = search rules in
    let low = numbered why in
    let told-now = ap told e in
    fault_two (sym c.in_err-contour_refusal.ensures ∙ sym told-now) (λ z. omega (arith, told-now))
