-- How long a line may be, without its CRLF and with it. Assumes nothing.
use Rattle.std.specs.Prelude.{ℕ}

-- the longest row of movements: `9999999,2026-03-31,23:58:10,V,S,0606,EHBK,B738,C`
abbrev pub longest_row : ℕ
longest_row = 48

-- the header of the movements is longer
abbrev pub longest_header : ℕ
longest_header = 51

-- any line with its CRLF
abbrev pub longest_line : ℕ
longest_line = 53
