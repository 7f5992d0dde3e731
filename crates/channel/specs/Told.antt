-- What a run comes to, said of the bytes that went and of what is told of them, and of nothing between.
-- Assumes nothing.
use Rattle.std.specs.Prelude.{◌≡◌, ℕ, Bool, true, false, List, length}
use Rattle.channel.specs.System.{Sent, Lost}

-- A run, by what it answers and how many bytes it counts: a text of which this is told went, one time, and no other
-- byte; or a write was not taken whole
pub data RunTold (Told : List ℕ → Type 0) (r : Bool) (sent : ℕ) : Type 0 where
  went : r ≡ true → (text : List ℕ) → Told text → Sent text → length text ≡ sent → RunTold Told r sent
  lost : r ≡ false → Lost → RunTold Told r sent
