-- `report_steps::inner::take_levels` meets its contract: *supply* with the row's levels. Assumes nothing.
use Rattle.std.proofs.Common.{arith}
use Rattle.std.proofs.lemmas.Result.{err_from_is_err_and}
use Rattle.report_steps.proofs.Intakes.{levels_refused, levels_entered}
use Rattle.report_steps.proofs.inner.take_levels.Goals as goal

pub returns-in_err-supply : goal.returns-in_err-supply
returns-in_err-supply c =
    let p = err_from_is_err_and c.from_residual.result c.from_residual.ensures.1 in
    rw (p.1, p.2) (levels_refused _ (rw c.in_err-supply.was at c.supply.ensures))

pub returns : goal.returns
returns c = levels_entered (rw c.in_ok-supply.was at c.supply.ensures)

pub slice_bounds-given-end : goal.slice_bounds-given-end
slice_bounds-given-end c = omega arith
