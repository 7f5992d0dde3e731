-- When the coupling is refused, in the rules' words and with its numbers spelled out: RULES, "Radar tracks". Assumes
-- nothing.
use Rattle.std.specs.Prelude.{ℕ, ◌<◌, ◌≡◌, ◌⊎◌, List, length, get_or}
use Rattle.date.specs.Promises.{OnCalendar}
use Rattle.coupling_rules.specs.Flights.{Flights, Movements}
use Rattle.coupling_rules.specs.Refusals.{couple_refusal}

-- a column is not as long as the dates
abbrev pub Uneven : Flights → List ℕ → Type 0
Uneven f column = length column ≡ length f.dates → ⊥

-- a place of a column holds more than it may
pub record Over (top : ℕ) (column : List ℕ) : Type 0 where
  pub place : ℕ
  pub there : place < length column
  pub over : top < get_or column place 0

-- a place of the dates holds none of the calendar, 1900 to 9999
pub record NoDate (dates : List ℕ) : Type 0 where
  pub place : ℕ
  pub there : place < length dates
  pub none : OnCalendar (get_or dates place 0) → ⊥

-- what refuses a list of flights
pub data Wrong (f : Flights) : Type 0 where
  many : 50000 < length f.dates → Wrong f
  times : Uneven f f.times → Wrong f
  classes : Uneven f f.classes → Wrong f
  kinds : Uneven f f.kinds → Wrong f
  runways : Uneven f f.runways → Wrong f
  airports : Uneven f f.airports → Wrong f
  types : Uneven f f.types → Wrong f
  class : Over 1 f.classes → Wrong f
  kind : Over 1 f.kinds → Wrong f
  second : Over 86399 f.times → Wrong f
  date : NoDate f.dates → Wrong f

-- and movements
pub data WrongMovements (m : Movements) : Type 0 where
  flights : Wrong m.flights → WrongMovements m
  circuits : Uneven m.flights m.circuits → WrongMovements m

-- 18 exactly where a reason holds, of the movements or of the tracks, and else nothing is refused but for room
pub record RefusedExactly (m : Movements) (t : Flights) : Type 0 where
  pub refused : WrongMovements m ⊎ Wrong t → couple_refusal m t ≡ 18
  pub only : (couple_refusal m t ≡ 0 → ⊥) → WrongMovements m ⊎ Wrong t
  pub accepted : (WrongMovements m ⊎ Wrong t → ⊥) → couple_refusal m t ≡ 0
