-- `couple_steps::inner::put::put_track` meets its contract: a comma alone, or with a number. Assumes nothing.
use mathlib.Core.Path.{◌∙◌}
use native.Mathlib.Omega.{arith}
use Rattle.couple_steps.proofs.Putting.{track_none, track_some}
use Rattle.couple_steps.proofs.inner.put.put_track.Goals as goal

pub returns-in-0 : goal.returns-in-0
returns-in-0 c =
    track_none c.args.numbers.now c.in-0.is c.put_byte.ensures

pub returns-in_default : goal.returns-in_default
returns-in_default c =
    track_some c.args.numbers.now (λ z. omega (arith, z)) (c.from.ensures ∙ c.number_at.ensures)
    c.put_field.ensures
