-- How long a line can be: RULES, "Files and the report program".
-- Assumes nothing.
use Rattle.std.specs.Prelude.{ℕ}

-- the longest row on its layout, and with its CRLF the longest line
abbrev pub longest_row : ℕ
longest_row = 84

abbrev pub longest_line : ℕ
longest_line = 86
