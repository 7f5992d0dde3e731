-- How the bytes of a text came, and what is then known of the whole text: RULES, "Files and the report program".
-- Assumes nothing.
use Rattle.std.specs.Prelude.{ℕ, ◌+◌, List, ◌++◌, replicate}
use Rattle.channel.specs.System.{Origin, First, Whole, Broken}

-- to their end; up to a line that is refused, where the reading stops; or up to a read that failed
pub data Coming : Type 0 where
  whole : List ℕ → Coming
  stopped : List ℕ → Coming
  failed : List ℕ → Coming

-- that they came so: their origin ended behind them, they came first, or the next read failed
abbrev pub Heard : Origin → Coming → Type 0
Heard origin (whole bytes) = Whole origin bytes
Heard origin (stopped bytes) = First origin bytes
Heard origin (failed bytes) = Broken origin bytes

-- bytes of a line longer than any on its layout, with its CRLF
abbrev pub endless : (row : ℕ) → List ℕ
endless row = replicate (row + 3) 0

-- What is said of the text: of all bytes; whatever would follow them; or, since a read that fails is never an end, of a
-- text whose line being read goes on for longer than any line on its layout
abbrev pub Of : (row : ℕ) → Coming → (List ℕ → Type 0) → Type 0
Of row (whole bytes) Says = Says bytes
Of row (stopped bytes) Says = (rest : List ℕ) → Says (bytes ++ rest)
Of row (failed bytes) Says = Says (bytes ++ endless row)
