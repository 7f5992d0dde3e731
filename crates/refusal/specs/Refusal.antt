-- The refusals by name, and what a call tells: RULES, "Refusal numbers".
-- Assumes nothing.
use Rattle.std.specs.Prelude.{◌≡◌, ℕ, Result, Ok, Err, IfOk}
use Rattle.refusal.specs.declared.Refusal.{Refusal}
use Rattle.refusal.specs.declared.Refusal.TheVariants.{OutOfRange, TooLight, WrongIdentity, AlreadyStands}
use Rattle.refusal.specs.declared.Refusal.TheVariants.{DoesNotStand, NoUnusedRow, WrongLevels, NoLevelsHeld}
use Rattle.refusal.specs.declared.Refusal.TheVariants.{NotSound, NoneComputed, WrongDays, WrongNetwork}
use Rattle.refusal.specs.declared.Refusal.TheVariants.{WrongNetworkLevel, TooLittleRoom, WrongLevelAsked}
use Rattle.refusal.specs.declared.Refusal.TheVariants.{OffLayout, NetworkOffLayout, WrongFlights, LevelElsewhere}

-- the rules' number of a refusal
abbrev pub number_of : Refusal → ℕ
number_of OutOfRange = 1
number_of TooLight = 2
number_of WrongIdentity = 3
number_of AlreadyStands = 4
number_of DoesNotStand = 5
number_of NoUnusedRow = 6
number_of WrongLevels = 7
number_of NoLevelsHeld = 8
number_of NotSound = 9
number_of NoneComputed = 10
number_of WrongDays = 11
number_of WrongNetwork = 12
number_of WrongNetworkLevel = 13
number_of TooLittleRoom = 14
number_of WrongLevelAsked = 15
number_of OffLayout = 16
number_of NetworkOffLayout = 17
number_of WrongFlights = 18
number_of LevelElsewhere = 19

-- what a call tells: the number of its refusal, or 0
abbrev pub told : {A : Type 0} → Result A Refusal → ℕ
told (Ok answer) = 0
told (Err why) = number_of why

-- a call answers x, or refuses by the number `refusal`, which is 0 where it doesn't refuse
pub record Answers {A : Type 0} (refusal : ℕ) (x : A) (r : Result A Refusal) : Type 0 where
  pub number : told r ≡ refusal
  pub answer : IfOk r (λ y. y ≡ x)
