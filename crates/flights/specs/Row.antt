-- A row of tracks.csv or of the movements, read: RULES, "Radar tracks". Assumes nothing.
use Rattle.std.specs.Prelude.{ℕ, ◌+◌, ◌-◌, cond, ◌&&◌, List, ◌++◌, replicate, ◌==◌, slice_index}
use Rattle.date.specs.Calendar.{date_exists}
use Rattle.text.specs.Field.{count_of}
use Rattle.text.specs.Index.{every, listing}
use Rattle.text.specs.Line.{bare_line}
use Rattle.text.specs.Spelled.{byte}
use Rattle.flights.specs.Column.{date_column, movement_columns, has_layout}
use Rattle.flights.specs.Cell.{got_at, value_at}
use Rattle.std.specs.Prelude.{Result}
use Rattle.refusal.specs.Refusal.{Answers}
use Rattle.refusal.specs.declared.Refusal.{Refusal}

-- what a row reads as: refusal 0 and the values of its columns; or 16 or 18, and zeros
pub record Flight : Type 0 where
  pub refusal : ℕ
  pub values : List ℕ

-- a call answers just that
abbrev pub IsFlight : Flight → Result (List ℕ) Refusal → Type 0
IsFlight f r = Answers f.refusal f.values r

-- a row that is refused, and one that is read
abbrev pub refused_flight : ℕ → Flight
refused_flight number = record { refusal = number; values = replicate movement_columns 0 }

abbrev pub read_flight : List ℕ → Flight
read_flight values = record { refusal = 0; values = values }

-- a row on its layout: 18 for a date that doesn't exist
unfoldable pub judged_flight : List ℕ → Flight
judged_flight values = cond (date_exists (slice_index values date_column)) (read_flight values) (refused_flight 18)

-- the values of a line's columns; a track's circuit is 0
abbrev pub values_of : ℕ → List ℕ → List ℕ
values_of columns s = listing (value_at s) columns ++ replicate (movement_columns - columns) 0

-- a line that has to have so many fields, each on its layout
unfoldable pub row_of : ℕ → List ℕ → Flight
row_of columns s =
    cond (count_of (byte ",") s + 1 == columns && every (got_at s) columns)
    (judged_flight (values_of columns s))
    (refused_flight 16)

-- a row of so many columns, with its CRLF or without: 16, then 18
unfoldable pub flight_of : ℕ → List ℕ → Flight
flight_of columns s = cond (has_layout columns) (row_of columns (bare_line s)) (refused_flight 16)
