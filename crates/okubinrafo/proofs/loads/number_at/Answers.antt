-- `okubinrafo::loads::number_at` meets its contract. Assumes nothing.
use native.Mathlib.Omega.{arith}
use borrow.Author.Rules.{rules}
use Rattle.okubinrafo.specs.Loads.{numbers_from}
use Rattle.okubinrafo.proofs.Numbers.{number_computed, number_missing}
use Rattle.okubinrafo.proofs.loads.number_at.Goals as goal

pub returns-in-0 : goal.returns-in-0
returns-in-0 c = unfold numbers_from in search rules

pub returns-in-1 : goal.returns-in-1
returns-in-1 c = unfold numbers_from in search rules

pub returns-in-2 : goal.returns-in-2
returns-in-2 c = unfold numbers_from in search rules

pub returns-in-3-to-20 : goal.returns-in-3-to-20
returns-in-3-to-20 c =
    let l = c.args.load in
    number_computed l.total l.level l.counts (omega arith) c.args.k (omega arith) (omega arith)

pub returns-in_default : goal.returns-in_default
returns-in_default c =
    let l = c.args.load in
    number_missing l.total l.level l.counts (omega arith) c.args.k (omega arith)
