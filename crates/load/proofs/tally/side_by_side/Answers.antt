use Rattle.std.specs.Prelude.{◌≡◌}
use mathlib.Core.Path.{refl, ap, ◌∙◌}
use native.Mathlib.{Numerals.add-one, Omega.arith}
use Rattle.load_rules.specs.{Tally.group_with}
use Rattle.load.specs.InnerSteps.{group_at, flat}
use Rattle.load.proofs.CellLaws.{filled}
use Rattle.load.proofs.tally.side_by_side.Goals as goal

pub returns : goal.returns
unfolding filled flat
returns c =
    let e : c.loop-g.g ≡ 18 = omega arith in
    c.loop-g.invariant ∙ ap (filled (group_with 0 0 0) (group_at c.args.groups)) e

pub loop-g-init : goal.loop-g-init
loop-g-init c = unfold filled in refl

pub loop-g-preserved : goal.loop-g-preserved
loop-g-preserved c = unfold filled in rw (add-one, ← c.group_at.ensures, c.loop-g.invariant)
