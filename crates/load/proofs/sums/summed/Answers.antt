use mathlib.Core.Path.{refl, ap, ◌∙◌}
use native.Mathlib.{Numerals.add-one, Omega.arith}
use Rattle.load_rules.specs.Factors.{sum_to}
use Rattle.load.specs.InnerSteps.{sums_of, added_to}
use Rattle.load.proofs.BoundLaws.{fits_next}
use Rattle.load.proofs.sums.summed.Goals as goal

pub added_to-s-requires : goal.added_to-s-requires
added_to-s-requires c =
    rw (c.group_at.ensures, c.loop-g.invariant)
    (fits_next c.args.groups c.requires
    c.loop-g.g (omega arith))

pub loop-g-preserved : goal.loop-g-preserved
unfolding sums_of sum_to added_to
loop-g-preserved c =
    rw (add-one, ← c.group_at.ensures)
    (c.added_to-s.ensures ∙ ap (λ t. added_to t c.group_at.result) c.loop-g.invariant)

pub loop-g-init : goal.loop-g-init
loop-g-init c = unfold sums_of sum_to in refl
