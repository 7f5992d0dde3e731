-- `okubinrafo::loads::put_number` meets its contract. Assumes nothing.
use mathlib.Core.{Path.refl, List.[], List.◌∷◌}
use native.Mathlib.Omega.{arith}
use borrow.Author.Tests.{eqb-true, eqb-false}
use Rattle.refusal.proofs.Laws.{settled}
use Rattle.room.proofs.Answers.{front-sets, lack, write}
use Rattle.okubinrafo.proofs.loads.put_number.Goals as goal

pub returns : goal.returns
returns c =
    let a = c.args in
    let some = eqb-false _ 0 (settled c.is_empty.ensures c.if-is_empty.false) in
    write refl (omega (arith, some)) (front-sets (a.n ∷ []) a.room.now (omega (arith, some)))

pub returns-then-is_empty : goal.returns-then-is_empty
returns-then-is_empty c =
    let none = eqb-true _ 0 (settled c.is_empty.ensures c.if-is_empty.true) in
    lack refl (omega (arith, none))
