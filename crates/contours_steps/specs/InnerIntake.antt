-- Inner steps: no promise uses them. One argument. Assumes nothing.
use Rattle.std.specs.Prelude.{ℕ, ◌+◌, Bool, List}
use Rattle.channel.specs.System.{Argument}
use Rattle.contours_steps.specs.Words.{max_word, WordTaken}

-- the argument at a place, which counts from 0: `word` is what was handed over
pub record ArgumentTaken (asked : List ℕ) (place : ℕ) (r : Bool) (asked' : List ℕ) : Type 0 where
  pub word : List ℕ
  pub named : Argument (place + 1) max_word word
  pub taken : WordTaken asked place word r asked'
