-- What the program contours may write on standard output, by what came of the network's bytes. Assumes nothing.
use Rattle.std.specs.Prelude.{◌≡◌, ℕ, List, length}
use Rattle.channel.specs.System.{First, Whole, Broken}
use Rattle.channel.specs.System.Origin.{input}
use Rattle.contours_steps.specs.declared.words.Given.{Given}
use Rattle.contours_steps.specs.Words.{Gathered}
use Rattle.contours_steps.specs.Sheet.{max_text, written_of, failed_of, overlong_of}

-- these bytes were read to their end, they can't be read on, or they fill the program's room
abbrev pub ReadWhole : List ℕ → Type 0
ReadWhole bytes = Whole input bytes

abbrev pub ReadFailed : List ℕ → Type 0
ReadFailed bytes = Broken input bytes

abbrev pub ReadFull : List ℕ → Type 0
ReadFull bytes = (First input bytes) × (length bytes ≡ max_text)

-- The text that goes with it: that of the whole network and the words, that of a failed read, which is never taken for
-- the end, or that of a full room; there is no fourth
pub data TextFor (bytes : List ℕ) (words : List (List ℕ)) (out : List ℕ) : Type 0 where
  whole : ReadWhole bytes → out ≡ written_of bytes words → TextFor bytes words out
  fails : ReadFailed bytes → out ≡ failed_of bytes → TextFor bytes words out
  full : ReadFull bytes → out ≡ overlong_of bytes → TextFor bytes words out

-- a text that may be written, where these words were given
pub record Answered (bytes : List ℕ) (g : Given) (asked out : List ℕ) : Type 0 where
  pub given : Gathered g asked
  pub is : TextFor bytes given.words out

-- whatever was read and given
pub record MayWrite (out : List ℕ) : Type 0 where
  pub bytes : List ℕ
  pub given : Given
  pub asked : List ℕ
  pub answered : Answered bytes given asked out
