-- `book::refusals::withdraw_refusal` meets its contract. Assumes nothing.
use Rattle.std.proofs.Common.{rules}
use Rattle.refusal.proofs.Laws.{settled}
use Rattle.book_rules.specs.Calls.{withdraw_refusal}
use Rattle.book_rules.proofs.Accepted.{identity_in}
use Rattle.book.proofs.refusals.withdraw_refusal.Goals as goal

pub stands_at-requires-clause-le_x : goal.stands_at-requires-clause-le_x
stands_at-requires-clause-le_x c = (identity_in _ (settled c.identity_fits.ensures c.if-not-identity_fits.false)).0

pub returns-then-not-stands_at : goal.returns-then-not-stands_at
unfolding withdraw_refusal
returns-then-not-stands_at c = search rules

pub returns : goal.returns
unfolding withdraw_refusal
returns c = search rules

pub returns-then-not-identity_fits : goal.returns-then-not-identity_fits
unfolding withdraw_refusal
returns-then-not-identity_fits c = search rules
