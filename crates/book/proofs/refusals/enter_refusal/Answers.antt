-- `book::refusals::enter_refusal` meets its contract: rules 1 and 2 refuse an entry as they refuse its movement.
-- Assumes nothing.
use mathlib.Core.Path.{◌∙◌}
use native.Mathlib.Omega.{arith}
use Rattle.std.proofs.Common.{rules}
use Rattle.std.proofs.lemmas.Result.{err_from_is_err_and}
use Rattle.refusal.proofs.Laws.{settled, numbered}
use Rattle.book_rules.specs.Calls.{enter_refusal}
use Rattle.book_rules.specs.Columns.{stands}
use Rattle.book_rules.proofs.Accepted.{enter_refused, identity_in}
use Rattle.book_rules.proofs.Search.{index_within}
use Rattle.book.proofs.refusals.enter_refusal.Goals as goal

pub returns-then-not-counts_fit : goal.returns-then-not-counts_fit
unfolding enter_refusal
returns-then-not-counts_fit c = search rules

pub returns-in_err-movement_refusal : goal.returns-in_err-movement_refusal
returns-in_err-movement_refusal c =
    let p = err_from_is_err_and c.from_residual.result c.from_residual.ensures.1 in
    let said = c.in_err-movement_refusal.ensures in
    let low = numbered c.in_err-movement_refusal.field-0.0 in
    rw (p.1, p.2) (said ∙ enter_refused _ _ _ _ _ _ _ _ (settled c.counts_fit.ensures c.if-not-counts_fit.false)
    (λ e. omega arith))

pub returns-then-not-identity_fits : goal.returns-then-not-identity_fits
unfolding enter_refusal
returns-then-not-identity_fits c = search rules

pub stands_at-requires-clause-le_x : goal.stands_at-requires-clause-le_x
stands_at-requires-clause-le_x c = (identity_in _ (settled c.identity_fits.ensures c.if-not-identity_fits.false)).0

pub returns-then-stands_at : goal.returns-then-stands_at
unfolding enter_refusal
returns-then-stands_at c = search rules

pub returns-then-rows-ids : goal.returns-then-rows-ids
unfolding enter_refusal stands
returns-then-rows-ids c = search rules

pub returns : goal.returns
unfolding enter_refusal stands
returns c = let low = index_within 0 c.args.ids.now in search rules
