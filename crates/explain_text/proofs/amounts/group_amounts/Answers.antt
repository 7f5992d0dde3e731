-- `explain_text::amounts::group_amounts` meets its contract: V and U of a group are within the sums of all. Assumes
-- nothing.
use native.Mathlib.Omega.{arith}
use Rattle.explain_text.specs.InnerNumbers.{group_in}
use Rattle.explain_text.proofs.Sums.{sum_within}
use Rattle.explain_text.proofs.amounts.group_amounts.Goals as goal

pub overflow_add-result : goal.overflow_add-result
overflow_add-result c =
    let n = c.args.numbers.now in
    omega (
      arith,
      c.number_at-computed.ensures,
      c.number_at-missing.ensures,
      sum_within n 0 c.args.g c.requires.0,
      sum_within n 1 c.args.g c.requires.0,
      c.requires.1.most,
    )

pub returns : goal.returns
returns c = unfold group_in in cc
