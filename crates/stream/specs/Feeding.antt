-- What the reading of a text promises. Which bytes came, and that they are all, is channel's to say. Assumes nothing.
use Rattle.std.specs.Prelude.{◌≡◌, ℕ, ◌+◌, ◌^◌, ◌<◌, ◌≤◌, List, ◌++◌, length, take, ◌≢◌, Result, Ok, Err}
use Rattle.channel.specs.System.{Origin, Whole, Broken}
use Rattle.channel.specs.Input.{Came}
use Rattle.refusal.specs.declared.Refusal.{Refusal}
use Rattle.refusal.specs.declared.Refusal.TheVariants.{OffLayout}
use Rattle.refusal.specs.Refusal.{told}
use Rattle.stream.specs.declared.Feed.{Feed}
use Rattle.stream.specs.declared.Piece.{Piece}
use Rattle.stream.specs.declared.Turn.{Turn}
use Rattle.stream.specs.declared.State.{State}
use Rattle.stream.specs.declared.State.TheVariants.{Going, Ended, Stopped, Failed}
use Rattle.stream.specs.Coming as how
use Rattle.stream.specs.Reading.{Step, Reading, reading_at, off_at, closing, whole_read, read_on, Onward, Unended}

-- the reading that a turn leaves, with what it holds
abbrev pub turned_to : {A : Type 0} → Turn → A → Reading A
turned_to t a = reading_at (told t.refusal) t.line a

-- a piece that was taken: to be read on, or refused
abbrev pub state_of : Result (Unit {0}) Refusal → State
state_of (Ok fine) = Going
state_of (Err why) = Stopped

abbrev pub turn_of : Piece → Turn
turn_of p = record { at = p.at; left = p.left; line = p.line; refusal = p.refusal; state = state_of p.refusal }

-- the end of a text, whose last bytes were read so far
abbrev pub ended_at : Feed → ℕ → Turn
ended_at f left = record { at = 0; left = left; line = f.line; refusal = f.refusal; state = Ended }

-- a read that failed in a line: 16 at that line
abbrev pub failed_at : ℕ → Turn
failed_at line = record { at = 0; left = 0; line = line; refusal = Err OffLayout; state = Failed }

-- the bytes that wait for their line's end stand in front of the buffer, and there is room behind them; lines are no
-- more than the bytes that were taken, and those can still be counted
pub record Waiting (row : ℕ) (bytes : List ℕ) (left line taken : ℕ) : Type 0 where
  pub unended : Unended (take left bytes)
  pub short : left ≤ row + 2
  pub room : row + 2 < length bytes
  pub first : 1 ≤ line
  pub lines : line + left ≤ taken + 1
  pub counts : taken + 1 < 2 ^ 64

-- one turn, from a reading s and the bytes that waited, on to a reading that holds a': `got` are the bytes that came
pub record Turned {A : Type 0} (origin : Origin) (step : Step A) (row : ℕ) (s : Reading A) (waited : List ℕ)
    (taken : ℕ) (t : Turn) (a' : A) (bytes' : List ℕ) (taken' : ℕ) : Type 0 where
  pub got : List ℕ
  pub more : t.state ≡ Going
      → Onward step s (waited ++ got) (reading_at 0 t.line a') (take t.left bytes')
  pub waits : t.state ≡ Going → Waiting row bytes' t.left t.line taken'
  pub grows : t.state ≡ Going → taken < taken'
  pub came : (t.state ≢ Ended) → (t.state ≢ Failed) → (old : List ℕ)
      → Came origin taken old → Came origin taken' (old ++ got)
  pub ends : t.state ≡ Ended → (turned_to t a' ≡ closing (read_on step s waited))
      × ((old : List ℕ) → Came origin taken old → Whole origin old)
  pub stops : t.state ≡ Stopped → (u : List ℕ)
      → turned_to t a' ≡ closing (read_on step s (waited ++ got ++ u))
  pub fails : t.state ≡ Failed → (turned_to t a' ≡ off_at s)
      × ((old : List ℕ) → Came origin taken old → Broken origin old)
  pub refused : t.state ≡ Stopped → told t.refusal ≢ 0

-- a whole text, by how its bytes came; what is not refused was read to its end
pub record ReadWhole {A : Type 0} (origin : Origin) (step : Step A) (a : A) (t : Turn) (a' : A) : Type 0 where
  pub all : List ℕ
  pub whole : Whole origin all
  pub is : turned_to t a' ≡ whole_read step a all

pub record Done {A : Type 0} (origin : Origin) (step : Step A) (row : ℕ) (a : A) (t : Turn) (a' : A) : Type 0 where
  pub came : how.Coming
  pub heard : how.Heard origin came
  pub is : how.Of row came (λ bytes. turned_to t a' ≡ whole_read step a bytes)
  pub ended : told t.refusal ≡ 0 → ReadWhole origin step a t a'
