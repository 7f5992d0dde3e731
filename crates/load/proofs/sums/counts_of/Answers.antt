use Rattle.std.specs.Prelude.{◌≡◌}
use mathlib.Core.Path.{refl, ap, ◌∙◌}
use native.Mathlib.{Numerals.add-one, Omega.arith}
use Rattle.load_rules.specs.{Load.counts_of}
use Rattle.load.specs.InnerSteps.{group_at}
use Rattle.load.proofs.CellLaws.{filled}
use Rattle.load.proofs.sums.counts_of.Invariants.{none}
use Rattle.load.proofs.sums.counts_of.Goals as goal

pub returns : goal.returns
unfolding filled
returns c =
    let e : c.loop-g.g ≡ 18 = omega arith in
    c.loop-g.invariant ∙ ap (filled none (λ i. counts_of (group_at c.args.groups i))) e

pub loop-g-init : goal.loop-g-init
loop-g-init c = unfold filled in refl

pub loop-g-preserved : goal.loop-g-preserved
loop-g-preserved c = unfold filled in rw (add-one, ← c.group_at-c.ensures, c.loop-g.invariant)
