-- `load::asked::Asked::of` meets its contract: each test in its order. Assumes nothing.
use mathlib.Core.Path.{refl}
use Rattle.refusal.proofs.Laws.{settled}
use Rattle.load.specs.InnerSteps.{asked_refusal}
use Rattle.load.proofs.asked.Asked.of.Goals as goal

pub returns-then-not-point_fits-clause-number : goal.returns-then-not-point_fits-clause-number
unfolding asked_refusal
returns-then-not-point_fits-clause-number c = rw (settled c.point_fits.ensures c.if-not-point_fits.true) refl

pub returns-then-not-days_fit-clause-number : goal.returns-then-not-days_fit-clause-number
unfolding asked_refusal
returns-then-not-days_fit-clause-number c =
    rw (
      settled c.point_fits.ensures c.if-not-point_fits.false,
      settled c.days_fit.ensures c.if-not-days_fit.true,
    ) refl

pub returns-clause-number : goal.returns-clause-number
unfolding asked_refusal
returns-clause-number c =
    rw (
      settled c.point_fits.ensures c.if-not-point_fits.false,
      settled c.days_fit.ensures c.if-not-days_fit.false,
    ) refl
