-- `load::account::put_group` meets its contract: four numbers are copied to their place. Assumes nothing.
use mathlib.Core.Path.{refl, ◌∙◌}
use Rattle.load_rules.specs.Load.{scaled_energy}
use Rattle.load.proofs.AccountLaws.{copied}
use Rattle.load.proofs.account.put_group.Goals as goal

pub returns : goal.returns
unfolding scaled_energy
returns c =
    copied c.args.answer.now c.args.at 4 (c.copy_from_slice.ensures.after ∙ rw c.scaled_by.ensures refl) refl
