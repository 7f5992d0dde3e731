-- `coupling::fit::refusal` meets its contract: movements, tracks, and then the room. Assumes nothing.
use Rattle.std.proofs.Common.{arith}
use Rattle.std.proofs.lemmas.Bool.Decides.{nat_tests}
use Rattle.coupling_rules.specs.Refusals.{couple_refusal}
use Rattle.coupling.proofs.fit.refusal.Goals as goal
use Rattle.coupling.proofs.fit.refusal.Goals.{then-movements_fit, else-movements_fit}

pub returns-then-not-flights_fit : goal.returns-then-not-flights_fit
unfolding couple_refusal
returns-then-not-flights_fit c =
    elim c.if-movements_fit.branch [ then-movements_fit w ↦ grind arith | else-movements_fit w ↦ grind arith ]

pub returns-then-room-movements : goal.returns-then-room-movements
unfolding couple_refusal
returns-then-room-movements c =
    elim c.if-movements_fit.branch [ then-movements_fit w ↦ grind (arith, nat_tests) | else-movements_fit w ↦ cc ]

pub returns : goal.returns
unfolding couple_refusal
returns c =
    elim c.if-movements_fit.branch [ then-movements_fit w ↦ grind (arith, nat_tests) | else-movements_fit w ↦ cc ]
