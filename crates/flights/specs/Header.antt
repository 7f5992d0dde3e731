-- The header lines of tracks.csv and of the movements, byte for byte and without their CRLF. Assumes nothing.
use Rattle.std.specs.Prelude.{ℕ, Bool, cond, ◌&&◌, List, ◌==◌}
use Rattle.refusal.specs.Refuse.{refuse}
use Rattle.text.specs.Same.{same_text}
use Rattle.text.specs.Spelled.{bytes}
use Rattle.flights.specs.Column.{track_columns, movement_columns}

abbrev pub track_header : List ℕ
track_header = bytes "track,date,time,class,kind,runway,airport,type"

abbrev pub movement_header : List ℕ
movement_header = bytes "id,date,time,class,kind,runway,airport,type,circuit"

-- the header of so many columns
unfoldable pub is_header : ℕ → List ℕ → Bool
is_header columns s =
    cond (columns == track_columns) (same_text s track_header)
    (columns == movement_columns && same_text s movement_header)

abbrev pub header_refusal : ℕ → List ℕ → ℕ
header_refusal columns s = refuse 16 (is_header columns s) 0
