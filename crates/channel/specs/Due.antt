-- A text that is written part by part: each part is due where the one before it ended. Assumes nothing.
use Rattle.std.specs.Prelude.{◌≡◌, ℕ, ◌+◌, Bool, true, false, List, ◌++◌, length}
use Rattle.channel.specs.System.{Lost}
use Rattle.channel.specs.Output.{Went}

-- the part stands in the whole at `at`
pub record Due (whole : List ℕ) (at : ℕ) (part : List ℕ) : Type 0 where
  pub before : List ℕ
  pub after : List ℕ
  pub place : at ≡ length before
  pub is : whole ≡ before ++ (part ++ after)

-- A text is handed over in parts: all of it went, behind what went before, or a write was not taken whole
pub record Sends (sent : ℕ) (text : List ℕ) (r : Bool) (sent' : ℕ) : Type 0 where
  pub count : r ≡ true → sent' ≡ sent + length text
  pub went : r ≡ true → (old : List ℕ) → Went sent old → Went sent' (old ++ text)
  pub lost : r ≡ false → Lost
