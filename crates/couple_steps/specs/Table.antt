-- tracks.csv and the movements, from their bytes to rows of numbers: RULES, "Radar tracks". A table has 8 columns, that
-- of the movements 9. Assumes nothing.
use Rattle.std.specs.Prelude.{ℕ, ◌+◌, cond, List, [], ◌∷◌, ◌++◌, map, ◌==◌, nat_le, slice_index}
use Rattle.refusal.specs.Refuse.{refuse, first}
use Rattle.text.specs.Index.{listing}
use Rattle.coupling_rules.specs.Limits.{max_flights}
use Rattle.coupling_rules.specs.Flights.{Flights, Movements}
use Rattle.flights.specs.Row.{flight_of}
use Rattle.flights.specs.Header.{header_refusal}
use Rattle.stream.specs.Reading.{Step, Reading, whole_read}

-- a row's numbers, one a column, and a table's rows
abbrev pub Rows : Type 0
Rows = List (List ℕ)

abbrev pub numbers_of : (columns : ℕ) (line : List ℕ) → List ℕ
numbers_of columns line = listing (λ k. slice_index (flight_of columns line).values k) columns

-- Line n of a file: the header, 16 otherwise; then rows, 16, then 18 for a date that doesn't exist or a row past
-- 50,000: row 50,000 stands in line 50,001
unfoldable pub line_refusal : (columns n : ℕ) (line : List ℕ) → ℕ
line_refusal columns n line =
    cond (n == 1)
    (header_refusal columns line)
    (first (flight_of columns line).refusal (refuse 18 (nat_le n (max_flights + 1)) 0))

-- a row that is not refused goes behind those before it
unfoldable pub line_after : (columns n : ℕ) (rows : Rows) (line : List ℕ) → Rows
line_after columns n rows line =
    cond (n == 1) rows (cond (line_refusal columns n line == 0) (rows ++ (numbers_of columns line ∷ [])) rows)

abbrev pub table_step : (columns : ℕ) → Step Rows
table_step columns = record { refusal = λ n rows line. line_refusal columns n line; after = line_after columns }

-- a whole file
abbrev pub table_of : (columns : ℕ) (bytes : List ℕ) → Reading Rows
table_of columns bytes = whole_read (table_step columns) [] bytes

-- the longest line on its layout, the header of the movements, has so many bytes before its CRLF
abbrev pub longest_text : ℕ
longest_text = 51

-- Rows as the columns of the coupling: number, date, time, class, kind, runway, airport, type and circuit

abbrev pub column_of : ℕ → Rows → List ℕ
column_of k rows = map (λ row. slice_index row k) rows

abbrev pub flights_of : Rows → Flights
flights_of rows = record {
  dates = column_of 1 rows;
  times = column_of 2 rows;
  classes = column_of 3 rows;
  kinds = column_of 4 rows;
  runways = column_of 5 rows;
  airports = column_of 6 rows;
  types = column_of 7 rows;
}

abbrev pub movements_of : Rows → Movements
movements_of rows = record { flights = flights_of rows; circuits = column_of 8 rows }
