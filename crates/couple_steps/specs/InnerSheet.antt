-- Inner steps: no promise uses them. The sheet as it is put into a buffer, part by part.
-- Assumes nothing.
use Rattle.std.specs.Prelude.{◌≡◌, ℕ, ◌<◌, ◌≤◌, List, ◌++◌, length, take, drop}
use Rattle.text.specs.Index.{listing}
use Rattle.text.specs.Sheet.{ended}
use Rattle.text.specs.Spelled.{bytes}
use Rattle.couple_steps.specs.declared.inner.put.Part.{Part}
use Rattle.couple_steps.specs.Sheet.{flight_line}

-- the heading with its CRLF
abbrev pub heading_text : List ℕ
heading_text = bytes "id,track\r\n"

-- the longest line with its CRLF: two numbers of up to 20 digits, a comma and the CRLF
abbrev pub longest_flight : ℕ
longest_flight = 43

-- the lines from movement i on
abbrev pub lines_from : (ids numbers answers : List ℕ) (many i : ℕ) → List ℕ
lines_from ids numbers answers many i = ended (drop i (listing (flight_line ids numbers answers) many))

-- a part: some lines at the front of the buffer, and those that are left
pub record PartPut (ids numbers answers : List ℕ) (many from : ℕ) (out : List ℕ) (r : Part)
    (out' : List ℕ) : Type 0 where
  pub long : length out' ≡ length out
  pub fits : r.size ≤ length out'
  pub joined : lines_from ids numbers answers many from
      ≡ take r.size out' ++ lines_from ids numbers answers many r.next
  pub within : r.next ≤ many
  pub more : from < r.next
