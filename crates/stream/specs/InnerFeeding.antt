-- Inner steps: no promise uses them. A piece of a text and its end, as a turn of the reading takes them, and what the
-- turns have come to. Assumes nothing.
use Rattle.std.specs.Prelude.{◌≡◌, ℕ, List, take, ◌≢◌}
use Rattle.channel.specs.System.{Origin}
use Rattle.channel.specs.Input.{Came}
use Rattle.refusal.specs.Refusal.{told}
use Rattle.stream.specs.declared.Turn.{Turn}
use Rattle.stream.specs.declared.State.TheVariants.{Going, Ended, Stopped, Failed}
use Rattle.stream.specs.Reading.{Step, Reading, reading_at, opening, Onward}
use Rattle.stream.specs.InnerTaken.{PieceTaken, LastTaken}
use Rattle.stream.specs.Feeding.{turned_to, Waiting}

-- a piece, and the end, as a turn takes them
pub record Pieced {A : Type 0} (step : Step A) (row : ℕ) (s : Reading A) (bytes : List ℕ) (t : Turn) (a' : A)
    (bytes' : List ℕ) : Type 0 where
  pub taken : PieceTaken step row s bytes (turned_to t a') (take t.left bytes')
  pub more : t.state ≡ Going → told t.refusal ≡ 0
  pub stops : t.state ≡ Stopped → told t.refusal ≢ 0
  pub ends : t.state ≢ Ended
  pub fails : t.state ≢ Failed

pub record Lasted {A : Type 0} (step : Step A) (s : Reading A) (bytes : List ℕ) (t : Turn) (a' : A) : Type 0 where
  pub taken : LastTaken step s bytes (turned_to t a')
  pub ends : t.state ≡ Ended

-- all bytes that came, and where their reading stands
pub record Come {A : Type 0} (origin : Origin) (step : Step A) (row : ℕ) (a₀ : A) (bytes : List ℕ)
    (left line taken : ℕ) (a : A) : Type 0 where
  pub all : List ℕ
  pub came : Came origin taken all
  pub waits : Waiting row bytes left line taken
  pub onward : Onward step (opening a₀) all (reading_at 0 line a) (take left bytes)
