-- What is drawn and what is refused, as the program's writers ask for it. Assumes nothing.
use Rattle.std.specs.Prelude.{◌≡◌, ℕ, List}
use Rattle.network.specs.declared.Frame.{Frame}
use Rattle.grid.specs.Read.{text_frame, text_levels}
use Rattle.contours_steps.specs.declared.words.Given.{Given}
use Rattle.contours_steps.specs.Words.{levels_in, Gathered}
use Rattle.contours_steps.specs.Sheet.{refusal_of, refused_at}

-- the network and the levels of a text and of the words that were given, which are not refused
pub record Accepted (text : List ℕ) (g : Given) (room levels : List ℕ) (f : Frame) (asked : List ℕ) : Type 0 where
  pub given : Gathered g room
  pub fine : refusal_of text given.words ≡ 0
  pub network : levels ≡ text_levels text
  pub frame : f ≡ text_frame text
  pub order : asked ≡ levels_in given.words

-- the number and the line that a text and the words that were given are refused with
pub record Refused (text : List ℕ) (g : Given) (room : List ℕ) (number line : ℕ) : Type 0 where
  pub given : Gathered g room
  pub some : number ≡ 0 → ⊥
  pub why : number ≡ refusal_of text given.words
  pub at : line ≡ refused_at text number
