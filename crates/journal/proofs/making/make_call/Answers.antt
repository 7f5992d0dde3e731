-- `journal::making::make_call` meets its contract: the first number says which call it is. Assumes nothing.
use native.Mathlib.Omega.{arith}
use Rattle.std.proofs.Common.{rules}
use Rattle.journal.proofs.Reading.{complete_two, complete_width, width_kind, call_kind}
use Rattle.journal.proofs.making.make_call.Goals as goal

pub enter_from-requires-clause-rest_in_bounds : goal.enter_from-requires-clause-rest_in_bounds
enter_from-requires-clause-rest_in_bounds c =
    let e = width_kind c.args.rest.now c.kind_at.ensures in
    let w = complete_width _ c.requires.rest_value in search rules

pub returns-in-Some-Enter : goal.returns-in-Some-Enter
returns-in-Some-Enter c = rw (call_kind _ c.kind_at.ensures) (search rules)

pub supply_from-requires-clause-rest_in_bounds : goal.supply_from-requires-clause-rest_in_bounds
supply_from-requires-clause-rest_in_bounds c =
    let e = width_kind c.args.rest.now c.kind_at.ensures in
    let w = complete_width _ c.requires.rest_value in search rules

pub returns-in-Some-Supply : goal.returns-in-Some-Supply
returns-in-Some-Supply c = rw (call_kind _ c.kind_at.ensures) (search rules)

pub returns-in-Some-TakeBack : goal.returns-in-Some-TakeBack
returns-in-Some-TakeBack c = rw (call_kind _ c.kind_at.ensures) (search rules)

pub returns-in-Some-Withdraw : goal.returns-in-Some-Withdraw
returns-in-Some-Withdraw c = rw (call_kind _ c.kind_at.ensures) (search rules)

pub bounds-rest-1 : goal.bounds-rest-1
bounds-rest-1 c = omega (arith, complete_two _ c.requires.rest_value)

pub bounds-rest-1-in-Some-Withdraw : goal.bounds-rest-1-in-Some-Withdraw
bounds-rest-1-in-Some-Withdraw c = omega (arith, complete_two _ c.requires.rest_value)
