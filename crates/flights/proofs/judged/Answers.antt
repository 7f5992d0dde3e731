-- `flights::judged` meets its contract: by whether the date exists. Assumes nothing.
use mathlib.Core.Path.{refl}
use Rattle.refusal.proofs.Laws.{settled}
use Rattle.flights.specs.Row.{judged_flight}
use Rattle.flights.proofs.judged.Goals as goal

pub returns-then-date_exists : goal.returns-then-date_exists
unfolding judged_flight
returns-then-date_exists c =
    rw (settled c.date_exists.ensures c.if-date_exists.true) (record { number = refl; answer = refl })

pub returns-else-date_exists : goal.returns-else-date_exists
unfolding judged_flight
returns-else-date_exists c =
    rw (settled c.date_exists.ensures c.if-date_exists.false) (record { number = refl; answer = tt })
