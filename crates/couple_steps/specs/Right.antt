-- When tracks.csv and the movements are right, and what is wrong with them: RULES, "Radar tracks". Assumes nothing.
use Rattle.std.specs.Prelude.{◌≡◌, ℕ, ◌+◌, ◌<◌, ◌≤◌, true, false, List, [], length, get_or, drop, ◌≢◌, slice_index}
use Rattle.std.specs.Prelude.{slice_index_or}
use Rattle.date.specs.Calendar.{date_exists}
use Rattle.text.specs.Line.{lines_of}
use Rattle.text.specs.Spelled.{bytes}
use Rattle.flights.specs.Spelled.{Spells}

abbrev pub track_heading : List ℕ
track_heading = bytes "track,date,time,class,kind,runway,airport,type"

abbrev pub movement_heading : List ℕ
movement_heading = bytes "id,date,time,class,kind,runway,airport,type,circuit"

-- the rows of a file are its lines behind the header
abbrev pub rows_of : List ℕ → List (List ℕ)
rows_of file = drop 1 (lines_of file)

-- a row that spells its values, with a date that exists
pub record Reads (columns : ℕ) (row : List ℕ) : Type 0 where
  pub values : List ℕ
  pub spelled : Spells columns row values
  pub exists : date_exists (slice_index values 1) ≡ true

-- A file is right: it has its header, and behind it at most 50,000 rows, each of them right
pub record Right (columns : ℕ) (header file : List ℕ) : Type 0 where
  pub some : 1 ≤ length (lines_of file)
  pub first : get_or (lines_of file) 0 [] ≡ header
  pub each : (i : ℕ) → i < length (rows_of file) → Reads columns (slice_index_or (rows_of file) i [])
  pub few : length (rows_of file) ≤ 50000

abbrev pub RightTracks : List ℕ → Type 0
RightTracks file = Right 8 track_heading file

abbrev pub RightMovements : List ℕ → Type 0
RightMovements file = Right 9 movement_heading file

-- Line n of a file passes: the header, or one of 50,000 rows that is right
pub data Passes (columns : ℕ) (header : List ℕ) (n : ℕ) (line : List ℕ) : Type 0 where
  header : n ≡ 1 → line ≡ header → Passes columns header n line
  row : 2 ≤ n → n ≤ 50001 → Reads columns line → Passes columns header n line

-- or it is at fault: 16 for another header and for a row off its layout, 18 for a date that doesn't exist and for a row
-- past 50,000
pub data Fault (columns : ℕ) (header : List ℕ) (n : ℕ) (line : List ℕ) (number : ℕ) : Type 0 where
  header : n ≡ 1 → (line ≢ header) → number ≡ 16 → Fault columns header n line number
  off : 2 ≤ n → ((values : List ℕ) → Spells columns line values → ⊥) → number ≡ 16 → Fault columns header n line number
  undated : 2 ≤ n → (values : List ℕ) → Spells columns line values → date_exists (slice_index values 1) ≡ false
      → number ≡ 18 → Fault columns header n line number
  past : 50001 < n → Reads columns line → number ≡ 18 → Fault columns header n line number

-- The number and the line that a file is refused with: it has no line, which is 16 at line 1; or the lines before that
-- line pass, and it is at fault
pub data Refused (columns : ℕ) (header file : List ℕ) (number line : ℕ) : Type 0 where
  empty : length (lines_of file) ≡ 0 → number ≡ 16 → line ≡ 1 → Refused columns header file number line
  first : (before : ℕ) → before < length (lines_of file) → line ≡ before + 1
      → ((i : ℕ) → i < before → Passes columns header (i + 1) (slice_index_or (lines_of file) i []))
      → Fault columns header line (slice_index_or (lines_of file) before []) number
      → Refused columns header file number line

-- A file is refused in one way, and one that is right in none
pub record RefusedOnce (columns : ℕ) (header file : List ℕ) : Type 0 where
  pub number= : (a b m n : ℕ) → Refused columns header file a m → Refused columns header file b n → a ≡ b
  pub line= : (a b m n : ℕ) → Refused columns header file a m → Refused columns header file b n → m ≡ n
  pub right : Right columns header file → (number line : ℕ) → Refused columns header file number line → ⊥
