-- The rows that the rules show, worked out. Assumes nothing.
use mathlib.Core.Path.{refl}
use Rattle.date.specs.Calendar.{date_exists, month_length, leap_day}
use Rattle.text.specs.Field.{count_of, up_to, after, field_of}
use Rattle.text.specs.{Line.bare_line, Index.every, Index.listing, Number.whole_of, Number.digits_of, Same.same_text}
use Rattle.text.specs.{Clock.two_at, Clock.time_of, Letter.place_of, Letter.letter_of}
use Rattle.flights.specs.{Cell.circuit_of, Cell.cell_of, Date.date_of, Name.in_name, Name.code_of, Name.name_of}
use Rattle.flights.specs.{Row.judged_flight, Row.row_of, Row.flight_of, Exact.ShownRows}

pub shown_rows : ShownRows
unfolding date_exists month_length leap_day count_of up_to after field_of bare_line every listing whole_of digits_of same_text
    two_at time_of place_of letter_of circuit_of cell_of date_of in_name code_of name_of judged_flight row_of flight_of
shown_rows = record { movement = refl; circuit = refl; track = refl; february = refl; nought = refl }
