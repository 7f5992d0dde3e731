-- What a person may count on in the call, said of the caller's own columns and of the lent room: RULES, "Radar tracks".
-- Assumes nothing.
use Rattle.std.specs.Prelude.{ℕ, ◌≤◌, ◌<◌, ◌≡◌, ◌⊎◌, List, length, get_or, take}
use Rattle.coupling_rules.specs.Flights.{Flights, Movements}
use Rattle.coupling_rules.specs.Promises.{Coupled}
use Rattle.coupling_rules.specs.Reasons.{Wrong, WrongMovements}

-- The number r and the room at the end, of movements m, tracks t and the room before
pub record Called (m : Movements) (t : Flights) (room : List ℕ) (r : ℕ) (room' : List ℕ) : Type 0 where
  -- 18 first, and nothing is assigned
  pub refused : WrongMovements m ⊎ Wrong t → (r ≡ 18) × (room' ≡ room)
  -- then 14 where there is less room than movements, and nothing is assigned
  pub short : (WrongMovements m ⊎ Wrong t → ⊥) → length room < length m.flights.dates
      → (r ≡ 14) × (room' ≡ room)
  -- else 0: the first numbers of the room are the answer, one a movement, and the rest stays
  pub done : (WrongMovements m ⊎ Wrong t → ⊥) → length m.flights.dates ≤ length room
      → (r ≡ 0) × Coupled m t (take (length m.flights.dates) room')
  pub long : length room' ≡ length room
  pub kept : (i : ℕ) → length m.flights.dates ≤ i → get_or room' i 0 ≡ get_or room i 0
