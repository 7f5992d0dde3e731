-- The arguments of the program. Assumes nothing.
use Rattle.std.specs.Prelude.{ℕ, List, length, take}
use Rattle.io.specs.Counts.{IsPrefixLen}
use Rattle.channel.specs.System.{Argument}

-- an argument at the front of the room; one that is longer than the room counts as empty
pub record Named (number r : ℕ) (room : List ℕ) : Type 0 where
  pub within : IsPrefixLen r room
  pub is : Argument number (length room) (take r room)
