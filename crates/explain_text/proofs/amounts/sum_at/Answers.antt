use Rattle.std.specs.Prelude.{◌≡◌, ◌<◌}
use mathlib.Core.Path.{sym, ap, ◌∙◌}
use native.Mathlib.Omega.{arith}
use Rattle.movement.specs.Limits.{group_count}
use Rattle.explain_text.specs.InnerNumbers.{sum_at}
use Rattle.explain_text.proofs.Sums.{sum_none, sum_next, sum_within}
use Rattle.explain_text.proofs.amounts.sum_at.Goals as goal

pub overflow_add-sum : goal.overflow_add-sum
overflow_add-sum c =
    let few : c.loop-g.g < group_count = omega arith in
    omega (
      arith,
      sum_within c.args.numbers.now c.args.k c.loop-g.g few,
      c.number_at-sum.ensures,
      c.loop-g.invariant,
      c.requires.1,
    )

pub loop-g-preserved : goal.loop-g-preserved
loop-g-preserved c =
    omega (
      arith,
      sum_next c.args.numbers.now c.args.k c.loop-g.g,
      c.number_at-sum.ensures,
      c.loop-g.invariant,
    )

pub returns : goal.returns
returns c =
    let last : c.loop-g.g ≡ group_count = omega arith in
    c.loop-g.invariant ∙ ap (sum_at c.args.numbers.now c.args.k) last

pub loop-g-init : goal.loop-g-init
loop-g-init c = sym (sum_none _ _)
