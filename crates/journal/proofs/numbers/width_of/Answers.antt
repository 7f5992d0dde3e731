-- `journal::numbers::width_of` meets its contract. Assumes nothing.
use Rattle.std.proofs.Common.{rules}
use Rattle.journal.proofs.Reading.{width_kind}
use Rattle.journal.proofs.numbers.width_of.Goals as goal

pub returns-in-Some-Enter : goal.returns-in-Some-Enter
returns-in-Some-Enter c = let w = width_kind c.args.rest.now c.kind_at.ensures in search rules

pub returns-in-Some-Supply : goal.returns-in-Some-Supply
returns-in-Some-Supply c = let w = width_kind c.args.rest.now c.kind_at.ensures in search rules

pub returns-in-Some-TakeBack : goal.returns-in-Some-TakeBack
returns-in-Some-TakeBack c = let w = width_kind c.args.rest.now c.kind_at.ensures in search rules

pub returns-in-None : goal.returns-in-None
returns-in-None c = let w = width_kind c.args.rest.now c.kind_at.ensures in search rules
