-- The type of an aircraft: RULES, "Movements and the book".
-- Assumes nothing.
use Rattle.std.specs.Prelude.{ℕ, Bool, true, cond, ◌==◌, nat_lt}
use Rattle.movement.specs.declared.aircraft.Aircraft.{Aircraft}
use Rattle.movement.specs.declared.aircraft.Aircraft.TheVariants.{Large, Small, Helicopter}
use Rattle.movement.specs.Limits.{small_below}

-- the rules' number of a type
abbrev pub aircraft_number : Aircraft → ℕ
aircraft_number Large = 0
aircraft_number Small = 1
aircraft_number Helicopter = 2

-- the type of a number up to 2
abbrev pub aircraft_numbered : ℕ → Aircraft
aircraft_numbered n = cond (n == 0) Large (cond (n == 1) Small Helicopter)

-- a small movement is under 6,000 kg; a large one may be lighter
abbrev pub mass_fits : Aircraft → ℕ → Bool
mass_fits Large m = true
mass_fits Small m = nat_lt m small_below
mass_fits Helicopter m = true
