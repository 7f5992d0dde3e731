-- `load::sums::scaled_by` meets its contract: by cases on the lower; the quotient fits. Assumes nothing.
use mathlib.Core.Path.{sym}
use borrow.Author.Tests.{ne_eqb}
use Rattle.load_rules.specs.Factors.{ratio, scaled_by}
use Rattle.load_rules.proofs.FactorLaws.{never_divided}
use Rattle.load.proofs.sums.scaled_by.Goals as goal

pub returns-then-lower-eq0 : goal.returns-then-lower-eq0
returns-then-lower-eq0 c = let a = c.args in sym (never_divided (ratio a.upper a.lower) a.energy c.if-lower-eq0.true)

pub returns : goal.returns
returns c = unfold scaled_by in rw (ne_eqb _ _ c.if-lower-eq0.false) c.scaled.ensures
