-- `load::account::put_whole` meets its contract: six numbers are copied behind the groups. Assumes nothing.
use mathlib.Core.Path.{refl, ◌∙◌}
use Rattle.load_rules.specs.Account.{whole_from}
use Rattle.load.proofs.AccountLaws.{copied}
use Rattle.load.proofs.account.put_whole.Goals as goal

pub returns : goal.returns
returns c =
    copied c.args.answer.now whole_from 6
    (c.copy_from_slice.ensures.after ∙ rw (c.given.ensures, c.value.ensures) refl) refl
