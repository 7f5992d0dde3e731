use native.Mathlib.Omega.{arith}
use Rattle.coupling_rules.proofs.Refusing.{flights_shape}
use Rattle.coupling.specs.Columns.{flights_of}
use Rattle.coupling.proofs.Filling.{filled_none, filled_more}
use Rattle.coupling.proofs.pack.pack.Goals as goal

pub loop-i-init : goal.loop-i-init
loop-i-init c =
    let shape = flights_shape (flights_of c.args.flights) c.requires.flights_value in
    (shape, (filled_none _ _, (filled_none _ _, filled_none _ _)))

pub loop-i-preserved : goal.loop-i-preserved
loop-i-preserved c =
    let v = c.loop-i.invariant in (
      v.0,
      (
        filled_more _ _ _ _ v.1.0 (omega (arith, v.0.few)) c.high.ensures,
        (
          filled_more _ _ _ _ v.1.1.0 (omega (arith, v.0.few)) c.low.ensures,
          filled_more _ _ _ _ v.1.1.1 (omega (arith, v.0.few)) c.moment.ensures,
        ),
      ),
    )

pub returns : goal.returns
returns c =
    let v = c.loop-i.invariant.1 in
    record { high = λ i h. v.0 i (omega arith); low = λ i h. v.1.0 i (omega arith); at = λ i h. v.1.1 i (omega arith) }
