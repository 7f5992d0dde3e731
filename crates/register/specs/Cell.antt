-- The fields of a line, column by column. A register's row is id,type,mtow,kind,time,l1..ln; the second line of
-- limits.csv is days,p1..pn. Assumes nothing.
use Rattle.std.specs.Prelude.{ℕ, zero, suc, ◌+◌, ◌-◌, Bool, true, false, cond, ◌&&◌, List, [], ◌++◌, length, replicate}
use Rattle.std.specs.Prelude.{◌==◌, nat_le}
use Rattle.text.specs.Number.{whole_of, level_of, is_got, value_of, show_whole, show_level}
use Rattle.text.specs.Field.{count_of, field_of}
use Rattle.text.specs.Index.{every, many, listing}
use Rattle.text.specs.Spelled.{byte}
use Rattle.std.specs.Prelude.{Option, Some}
use Rattle.text.specs.Clock.{time_of, show_time}
use Rattle.text.specs.Letter.{letter_of, show_letter}
use Rattle.register.specs.Letter.{type_letters, kind_letters}
use Rattle.register.specs.Column.{level_columns, max_columns, in_column}
use Rattle.register.specs.declared.cell.Table.{Table}
use Rattle.register.specs.declared.cell.Table.TheVariants.{Register, LimitsFile}

-- a level that may be left blank; its value is then zero
unfoldable pub level_or_blank : List ℕ → Option ℕ
level_or_blank t = cond (length t == 0) (Some 0) (level_of t)

-- what a field of column k of a register's row reads as, and one of limits.csv: the days, and past them limits
unfoldable pub row_cell : ℕ → List ℕ → Option ℕ
row_cell k t =
    in_column
    (record {
      identity = whole_of;
      ty = letter_of type_letters;
      mass = whole_of;
      kind = letter_of kind_letters;
      time = time_of;
      level = level_or_blank;
    })
    k
    t

unfoldable pub limits_cell : ℕ → List ℕ → Option ℕ
limits_cell zero t = whole_of t
limits_cell (suc i) t = level_of t

abbrev pub cell_of : Table → ℕ → List ℕ → Option ℕ
cell_of Register k t = row_cell k t
cell_of LimitsFile k t = limits_cell k t

-- the cell in column k of a line
abbrev pub cell_at : Table → List ℕ → ℕ → Option ℕ
cell_at table s k = cell_of table k (field_of (byte ",") k s)

abbrev pub got_at : Table → List ℕ → ℕ → Bool
got_at table s k = is_got (cell_at table s k)

abbrev pub value_at : Table → List ℕ → ℕ → ℕ
value_at table s k = value_of (cell_at table s k)

-- level i of a line is left blank
abbrev pub blank_at : List ℕ → ℕ → Bool
blank_at s i = length (field_of (byte ",") (level_columns + i) s) == 0

-- the fields of a line: whether all could be read, how many levels are blank, and the values, zero past the last
pub record Cells : Type 0 where
  pub read : Bool
  pub blanks : ℕ
  pub values : List ℕ

-- a line that has to have `count` fields, each on its layout: how many levels are blank, and the values, zero past the
-- last
abbrev pub got_cells : ℕ → List ℕ → Cells
got_cells blanks values = record { read = true; blanks = blanks; values = values }

abbrev pub off_cells : Cells
off_cells = record { read = false; blanks = 0; values = replicate max_columns 0 }

unfoldable pub cells_of : Table → ℕ → List ℕ → Cells
cells_of table count s =
    cond (count_of (byte ",") s + 1 == count && every (got_at table s) count)
    (got_cells (many (blank_at s) (count - level_columns))
    (listing (value_at table s) count ++ replicate (max_columns - count) 0))
    off_cells

-- the text of column k of a row: levels are left blank where the mark "computed" is 0
unfoldable pub shown_cell : ℕ → ℕ → List ℕ
shown_cell k v =
    in_column
    (record {
      identity = show_whole;
      ty = show_letter type_letters;
      mass = show_whole;
      kind = show_letter kind_letters;
      time = show_time;
      level = show_level;
    })
    k
    v

unfoldable pub cell_text : (mark k v : ℕ) → List ℕ
cell_text mark k v = cond (nat_le level_columns k && mark == 0) [] (shown_cell k v)
