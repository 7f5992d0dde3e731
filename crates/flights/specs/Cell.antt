-- The fields of a flight's row, column by column. Assumes nothing.
use Rattle.std.specs.Prelude.{ℕ, Bool, cond, List, length, ◌==◌}
use Rattle.text.specs.Number.{whole_of, is_got, value_of}
use Rattle.text.specs.Clock.{time_of}
use Rattle.text.specs.Letter.{letter_of}
use Rattle.text.specs.Field.{field_of}
use Rattle.text.specs.Same.{same_text}
use Rattle.text.specs.Spelled.{bytes, byte}
use Rattle.std.specs.Prelude.{Option, Some, None}
use Rattle.flights.specs.Column.{in_column}
use Rattle.flights.specs.Date.{date_of}
use Rattle.flights.specs.Name.{name_of}

-- classes V, H are 0 aeroplane, 1 helicopter; kinds S, L are 0 start, 1 landing
abbrev pub class_letters : List ℕ
class_letters = bytes "VH"

abbrev pub kind_letters : List ℕ
kind_letters = bytes "SL"

-- a circuit is C, 1; any other movement leaves it blank, 0
unfoldable pub circuit_of : List ℕ → Option ℕ
circuit_of t = cond (length t == 0) (Some 0) (cond (same_text t (bytes "C")) (Some 1) None)

-- what a field of column k reads as
unfoldable pub cell_of : ℕ → List ℕ → Option ℕ
cell_of k t =
    in_column
    (record {
      number = whole_of;
      date = date_of;
      time = time_of;
      class = letter_of class_letters;
      kind = letter_of kind_letters;
      runway = name_of;
      airport = name_of;
      ty = name_of;
      circuit = circuit_of;
    })
    k
    t

-- the cell in column k of a line
abbrev pub cell_at : List ℕ → ℕ → Option ℕ
cell_at s k = cell_of k (field_of (byte ",") k s)

abbrev pub got_at : List ℕ → ℕ → Bool
got_at s k = is_got (cell_at s k)

abbrev pub value_at : List ℕ → ℕ → ℕ
value_at s k = value_of (cell_at s k)
