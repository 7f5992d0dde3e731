-- How a run ends, over what its text may be. Assumes nothing.
use Rattle.std.specs.Prelude.{◌≡◌, ℕ, Bool, true, false, List}
use Rattle.channel.specs.System.{Lost}
use Rattle.channel.specs.Output.{Went}

-- A run whose text went, all of it, and nothing before it or behind it: `sent` counts all that went
pub record Ran (May : List ℕ → Type 0) (sent : ℕ) : Type 0 where
  pub out : List ℕ
  pub may : May out
  pub went : Went sent out

-- so, or with a write that was not taken whole
pub record Run (May : List ℕ → Type 0) (r : Bool) (sent : ℕ) : Type 0 where
  pub all : r ≡ true → Ran May sent
  pub lost : r ≡ false → Lost
