-- Inner steps: no promise uses them. A text written within so many bytes, and how many a number or a level takes.
-- Assumes nothing.
use Rattle.std.specs.Prelude.{ℕ, ◌+◌, ◌≤◌, List}
use Rattle.room.specs.Room.{Wrote}

-- a number has at most 20 digits, and a comma may stand before it
abbrev pub longest_number : ℕ
longest_number = 20

abbrev pub longest_field : ℕ
longest_field = 21

-- a level under 1000 has at most 6 bytes, and with three decimals 7
abbrev pub longest_level : ℕ
longest_level = 6

abbrev pub longest_thousandths : ℕ
longest_thousandths = 7

-- a refusal's one line: its word, two numbers with their commas, and the CRLF
abbrev pub longest_refused : ℕ
longest_refused = 51

-- a text written at `at` that takes at most `max` bytes
pub record WroteWithin (max : ℕ) (old : List ℕ) (at : ℕ) (text new : List ℕ) (next : ℕ) : Type 0 where
  pub wrote : Wrote old at text new next
  pub within : next ≤ at + max
