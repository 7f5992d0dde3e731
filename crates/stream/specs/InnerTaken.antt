-- Inner steps: no promise uses them. What each step of a reading leaves, from a line to a piece of the bytes.
-- Assumes nothing.
use Rattle.std.specs.Prelude.{◌≡◌, ℕ, ◌+◌, ◌≤◌, cond, List, length, drop, ◌==◌}
use Rattle.stream.specs.Reading.{Step, Reading, read_on, closing, Onward, Unended}

-- the line to read next, past a line that was taken or refused
abbrev pub next_line : (n refusal : ℕ) → ℕ
next_line n refusal = cond (refusal == 0) (n + 1) n

-- one line: what is answered, and what is held at the end
pub record LineTaken {A : Type 0} (step : Step A) (n : ℕ) (a : A) (line : List ℕ) (r : ℕ) (a' : A) : Type 0 where
  pub answer : r ≡ step.refusal n a line
  pub held : a' ≡ step.after n a line

-- every line that the bytes end is read, up to the first that is refused; what is left begins at `at`
pub record LinesTaken {A : Type 0} (step : Step A) (s : Reading A) (bytes : List ℕ) (at : ℕ)
    (s' : Reading A) : Type 0 where
  pub within : at ≤ length bytes
  pub onward : Onward step s bytes s' (drop at bytes)
  pub all : s'.refusal ≡ 0 → Unended (drop at bytes)
  pub least : s.line ≤ s'.line
  pub most : s'.line + length (drop at bytes) ≤ s.line + length bytes

-- the last bytes of a text are read
pub record LastTaken {A : Type 0} (step : Step A) (s : Reading A) (bytes : List ℕ) (s' : Reading A) : Type 0 where
  pub closed : s' ≡ closing (read_on step s bytes)

-- a piece of a text is read, up to the first line that is refused, and the bytes of a line still to be ended wait in
-- front: no more than the longest line on its layout has
pub record Waits {A : Type 0} (row : ℕ) (s : Reading A) (bytes : List ℕ) (s' : Reading A) (rest : List ℕ) : Type 0 where
  pub unended : Unended rest
  pub short : length rest ≤ row + 2
  pub least : s.line ≤ s'.line
  pub most : s'.line + length rest ≤ s.line + length bytes

pub record PieceTaken {A : Type 0} (step : Step A) (row : ℕ) (s : Reading A) (bytes : List ℕ) (s' : Reading A)
    (rest : List ℕ) : Type 0 where
  pub onward : Onward step s bytes s' rest
  pub waits : s'.refusal ≡ 0 → Waits row s bytes s' rest
