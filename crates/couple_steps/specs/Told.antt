-- What is told of the text that a run of couple writes, said of the bytes that came and of nothing between: RULES,
-- "Radar tracks". Assumes nothing.
use Rattle.std.specs.Prelude.{◌≡◌, ℕ, ◌≤◌, List, [], ◌∷◌, ◌++◌, length, replicate}
use Rattle.channel.specs.System.{First, Whole, Broken}
use Rattle.channel.specs.System.Origin.{input, file}
use Rattle.text.specs.Line.{lines_of}
use Rattle.text.specs.Spelled.{bytes}
use Rattle.text.specs.Sheet.{refused_text}
use Rattle.couple_steps.specs.Sheet.{coupled_text}
use Rattle.couple_steps.specs.Right.{track_heading, movement_heading, RightTracks, Refused}

-- Behind these bytes of a file a read failed, which is never an end: the text is one refusal, that of a line that came,
-- or else 16 at the line being read, which is thought on for longer than any line on its layout
pub record FailedTold (columns : ℕ) (header file text : List ℕ) : Type 0 where
  pub number : ℕ
  pub line : ℕ
  pub told : text ≡ refused_text number line
  pub some : number ≡ 0 → ⊥
  -- the line that a further byte would stand in
  pub up_to : line ≤ length (lines_of (file ++ (0 ∷ [])))
  pub sixteen : line ≡ length (lines_of (file ++ (0 ∷ []))) → number ≡ 16
  pub refused : Refused columns header (file ++ replicate 54 0) number line

-- A text, by how the bytes of tracks.csv and then of standard input came. There is no sixth way
pub data TextTold (text : List ℕ) : Type 0 where
  -- both ended, and all of them is answered
  ended : (tracks movements : List ℕ) → Whole (file (bytes "tracks.csv")) tracks → Whole input movements
      → text ≡ coupled_text tracks movements → TextTold text
  -- tracks.csv ended, the first bytes of the movements came, and the text is the same whatever follows them
  begun : (tracks movements : List ℕ) → Whole (file (bytes "tracks.csv")) tracks → First input movements
      → ((rest : List ℕ) → text ≡ coupled_text tracks (movements ++ rest)) → TextTold text
  -- tracks.csv ended and is right, and a read of the movements failed
  broken : (tracks movements : List ℕ) → Whole (file (bytes "tracks.csv")) tracks → RightTracks tracks
      → Broken input movements → FailedTold 9 movement_heading movements text → TextTold text
  -- the first bytes of tracks.csv came, and the text is the same whatever follows them and whatever the movements are
  refused : (tracks : List ℕ) → First (file (bytes "tracks.csv")) tracks
      → ((rest movements : List ℕ) → text ≡ coupled_text (tracks ++ rest) movements) → TextTold text
  -- a read of tracks.csv failed
  unread : (tracks : List ℕ) → Broken (file (bytes "tracks.csv")) tracks → FailedTold 8 track_heading tracks text
      → TextTold text
