use mathlib.Core.Path.{refl, ◌∙◌}
use native.Mathlib.Omega.{arith}
use Rattle.load_rules.specs.Account.{groups_to}
use Rattle.load.specs.InnerSteps.{group_at}
use Rattle.load.proofs.AccountLaws.{group_scalable, groups_more}
use Rattle.load.proofs.account.put_groups.Goals as goal

pub put_group-requires : goal.put_group-requires
put_group-requires c =
    record {
      scalable = rw c.group_at.ensures (group_scalable c.args.groups c.requires.bounded c.loop-g.g (omega arith));
      at_in_bounds = omega arith;
    }

pub loop-g-preserved : goal.loop-g-preserved
loop-g-preserved c =
    c.put_group.ensures
    ∙ rw (c.loop-g.invariant, c.group_at.ensures)
    (groups_more (group_at c.args.groups) c.loop-g.g c.args.answer.now)

pub loop-g-init : goal.loop-g-init
loop-g-init c = unfold groups_to in refl
