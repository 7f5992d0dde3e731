-- limits.csv as a whole text: RULES, "Files and the report program". Assumes nothing.
use Rattle.std.specs.Prelude.{ℕ, ◌+◌, cond, ◌&&◌, List, [], length, replicate, nat_le, slice_index, slice_index_or}
use Rattle.std.specs.Prelude.{Result, Ok, Err}
use Rattle.refusal.specs.Refusal.{number_of}
use Rattle.refusal.specs.Range.{all_within}
use Rattle.movement.specs.Limits.{max_points, max_days, max_limit}
use Rattle.text.specs.Line.{lines_of}
use Rattle.std.specs.Prelude.{Option, Some, None}
use Rattle.register.specs.Cell.{cells_of}
use Rattle.register.specs.Row.{eight_from}
use Rattle.register.specs.Header.{header_of, limits_header, limits_lead}
use Rattle.register.specs.declared.cell.Table.TheVariants as table
use Rattle.register.specs.declared.limits_csv.Limits.{Limits}
use Rattle.register.specs.declared.limits_csv.LimitsRefused.{LimitsRefused}

-- what limits.csv reads as: points, days and a limit for each point, zero past the points; or a refusal and its line
pub record LimitsFile : Type 0 where
  pub refusal : ℕ
  pub line : ℕ
  pub points : ℕ
  pub days : ℕ
  pub limits : List ℕ

-- a refusal and its line
abbrev pub refused_limits : ℕ → ℕ → LimitsFile
refused_limits number line =
    record { refusal = number; line = line; points = 0; days = 0; limits = replicate max_points 0 }

-- limits that are accepted, and what a reading tells
abbrev pub accepted_limits : Limits → LimitsFile
accepted_limits l = record { refusal = 0; line = 0; points = l.points; days = l.days; limits = l.limits }

abbrev pub limits_told : Result Limits LimitsRefused → LimitsFile
limits_told (Ok l) = accepted_limits l
limits_told (Err r) = refused_limits (number_of r.why) r.line

-- days and limits in their ranges: 11 and then 15, at line 2
unfoldable pub judged_limits : ℕ → List ℕ → LimitsFile
judged_limits n v =
    cond (nat_le 1 (slice_index v 0) && nat_le (slice_index v 0) max_days)
    (cond (all_within max_limit (eight_from 1 v))
    (record { refusal = 0; line = 0; points = n; days = slice_index v 0; limits = eight_from 1 v })
    (refused_limits 15 2))
    (refused_limits 11 2)

-- the second line on its layout, and no third one
unfoldable pub second_limits : (n : ℕ) (second : List ℕ) (lines : ℕ) → LimitsFile
second_limits n second lines =
    cond (cells_of table.LimitsFile (1 + n) second).read
    (cond (nat_le lines 2) (judged_limits n (cells_of table.LimitsFile (1 + n) second).values) (refused_limits 16 3))
    (refused_limits 16 2)

abbrev pub headed_limits : Option ℕ → List ℕ → ℕ → LimitsFile
headed_limits None second lines = refused_limits 16 1
headed_limits (Some n) second lines = second_limits n second lines

-- the text of two lines, of which a missing one counts as empty
unfoldable pub limits_of : List ℕ → LimitsFile
limits_of s =
    headed_limits (header_of limits_header limits_lead (slice_index_or (lines_of s) 0 []))
    (slice_index_or (lines_of s) 1 []) (length (lines_of s))
