-- The first refusal of a text counts, and a read that fails is never an end: RULES, "Files and the report program".
-- Assumes nothing.
use Rattle.std.specs.Prelude.{◌≡◌, ℕ, ◌+◌, ◌<◌, ◌≤◌, List, [], ◌∷◌, ◌++◌, length, take, ◌≢◌, slice_index_or}
use Rattle.text.specs.Line.{lines_of}
use Rattle.stream.specs.Reading.{Step, opening, lines_read, whole_read}
use Rattle.stream.specs.Coming.{endless}

-- what is held once so many lines of a text are read
abbrev pub held_after : {A : Type 0} → Step A → A → List ℕ → ℕ → A
held_after step a bytes n = (lines_read step (opening a) (take n (lines_of bytes))).held

-- the lines before the line of that number are read without a refusal, and on what they leave it is refused
pub record FirstRefused {A : Type 0} (step : Step A) (a : A) (bytes : List ℕ) (number line : ℕ) : Type 0 where
  pub before : ℕ
  pub reached : before < length (lines_of bytes)
  pub fine : (lines_read step (opening a) (take before (lines_of bytes))).refusal ≡ 0
  pub line= : line ≡ before + 1
  pub number= : number ≡ step.refusal line (held_after step a bytes before) (slice_index_or (lines_of bytes) before [])

-- a text with no line has no header: 16 at its line 1
pub record TextRefused {A : Type 0} (step : Step A) (a : A) (bytes : List ℕ) : Type 0 where
  pub empty : length (lines_of bytes) ≡ 0
      → ((whole_read step a bytes).refusal ≡ 16) × ((whole_read step a bytes).line ≡ 1)
  pub first : 1 ≤ length (lines_of bytes) → ((whole_read step a bytes).refusal ≢ 0)
      → FirstRefused step a bytes (whole_read step a bytes).refusal (whole_read step a bytes).line

-- a text that is not refused has a line, and none of its lines is refused on what the lines before it leave
pub record TextAccepted {A : Type 0} (step : Step A) (a : A) (bytes : List ℕ) : Type 0 where
  pub some : 1 ≤ length (lines_of bytes)
  pub each : (i : ℕ) → i < length (lines_of bytes)
      → step.refusal (i + 1) (held_after step a bytes i) (slice_index_or (lines_of bytes) i []) ≡ 0

-- the line that a further byte would stand in
abbrev pub line_being_read : List ℕ → ℕ
line_being_read bytes = length (lines_of (bytes ++ (0 ∷ [])))

-- Behind these bytes a read failed: a line that came is refused as ever, or else 16 at the line being read
pub record FailedRead {A : Type 0} (step : Step A) (row : ℕ) (a : A) (bytes : List ℕ) (number line : ℕ) : Type 0 where
  pub some : number ≡ 0 → ⊥
  pub up_to : line ≤ line_being_read bytes
  pub sixteen : line ≡ line_being_read bytes → number ≡ 16
  -- the lines before it are read without a refusal, and on what they leave it is refused so
  pub first : FirstRefused step a (bytes ++ endless row) number line
