-- All that the program couple writes on standard output, from the bytes of tracks.csv and of the movements: RULES,
-- "Radar tracks". Assumes nothing.
use Rattle.std.specs.Prelude.{ℕ, ◌-◌, cond, List, [], ◌∷◌, length, ◌==◌, slice_index}
use Rattle.text.specs.Index.{listing}
use Rattle.text.specs.Number.{show_number}
use Rattle.text.specs.Sheet.{ended, line, refused_text}
use Rattle.text.specs.Spelled.{bytes}
use Rattle.coupling_rules.specs.Rule.{tracks_for}
use Rattle.couple_steps.specs.Table.{Rows, table_of, column_of, flights_of, movements_of}

-- the track of each movement: its place in tracks.csv counted from 1, or 0 for none
abbrev pub answers_of : (tracks movements : Rows) → List ℕ
answers_of tracks movements = tracks_for (movements_of movements) (flights_of tracks)

-- the number of the track at a place counted from 1, or nothing
abbrev pub track_text : (numbers : List ℕ) (answer : ℕ) → List ℕ
track_text numbers answer = cond (answer == 0) [] (show_number (slice_index numbers (answer - 1)))

-- the line of movement i: its id, and the number of its track
abbrev pub flight_line : (ids numbers answers : List ℕ) (i : ℕ) → List ℕ
flight_line ids numbers answers i = line (show_number (slice_index ids i) ∷ track_text numbers (slice_index answers i)
    ∷ [])

-- a heading, and a line for each movement in the order given
unfoldable pub sheet_text : (ids numbers answers : List ℕ) (many : ℕ) → List ℕ
sheet_text ids numbers answers many = ended (bytes "id,track" ∷ listing (flight_line ids numbers answers) many)

-- tracks and movements that are not refused
abbrev pub coupled_sheet : (tracks movements : Rows) → List ℕ
coupled_sheet tracks movements =
    sheet_text (column_of 0 movements) (column_of 0 tracks) (answers_of tracks movements) (length movements)

-- tracks.csv is judged first, then the movements: a refusal is one line with the first line at fault
unfoldable pub coupled_text : (tracks movements : List ℕ) → List ℕ
coupled_text tracks movements =
    cond ((table_of 8 tracks).refusal == 0)
    (cond ((table_of 9 movements).refusal == 0)
    (coupled_sheet (table_of 8 tracks).held (table_of 9 movements).held)
    (refused_text (table_of 9 movements).refusal (table_of 9 movements).line))
    (refused_text (table_of 8 tracks).refusal (table_of 8 tracks).line)
