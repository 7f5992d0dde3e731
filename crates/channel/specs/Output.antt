-- Bytes as they go, to standard output. Assumes nothing.
use Rattle.std.specs.Prelude.{◌≡◌, ℕ, ◌+◌, Bool, true, false, List, ◌++◌, length}
use Rattle.channel.specs.System.{Sent, Lost}

-- `sent` bytes went, and they are these
pub record Went (sent : ℕ) (bytes : List ℕ) : Type 0 where
  pub first : Sent bytes
  pub long : length bytes ≡ sent

-- one write: the count goes on; a part that was taken went behind those before, and else it was not taken whole
pub record Writes (sent : ℕ) (part : List ℕ) (r : Bool) (sent' : ℕ) : Type 0 where
  pub count : sent' ≡ sent + length part
  pub went : r ≡ true → (old : List ℕ) → Went sent old → Went sent' (old ++ part)
  pub lost : r ≡ false → Lost
