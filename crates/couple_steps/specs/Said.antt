-- What a person may count on in what the program couple writes, read back from its own bytes: RULES, "Radar tracks".
-- Assumes nothing.
use Rattle.std.specs.Prelude.{◌≡◌, ℕ, suc, ◌+◌, ◌<◌, ◌↔◌, List, [], ◌∷◌, ◌++◌, length, get_or, slice_index}
use Rattle.std.specs.Prelude.{slice_index_or}
use Rattle.text.specs.Line.{lines_of}
use Rattle.text.specs.Field.{count_of, field_of}
use Rattle.text.specs.Number.{show_number}
use Rattle.text.specs.Spelled.{bytes}
use Rattle.text.specs.Sheet.{Refuses}
use Rattle.flights.specs.Spelled.{Spells, column}
use Rattle.coupling_rules.specs.Flights.{Flights, Movements, many}
use Rattle.coupling_rules.specs.Promises.{Coupled}
use Rattle.couple_steps.specs.Sheet.{coupled_text}
use Rattle.couple_steps.specs.Right.{track_heading, movement_heading, rows_of, RightTracks, RightMovements, Refused}

-- flights have these values at place i
pub record HasAt (f : Flights) (i : ℕ) (values : List ℕ) : Type 0 where
  pub date : get_or f.dates i 0 ≡ slice_index values 1
  pub time : get_or f.times i 0 ≡ slice_index values 2
  pub class : get_or f.classes i 0 ≡ slice_index values 3
  pub kind : get_or f.kinds i 0 ≡ slice_index values 4
  pub runway : get_or f.runways i 0 ≡ slice_index values 5
  pub airport : get_or f.airports i 0 ≡ slice_index values 6
  pub type : get_or f.types i 0 ≡ slice_index values 7

-- the values that a row spells; a movement has its circuit too
pub record TrackAt (row : List ℕ) (t : Flights) (i : ℕ) : Type 0 where
  pub values : List ℕ
  pub spelled : Spells 8 row values
  pub has : HasAt t i values

pub record MovementAt (row : List ℕ) (m : Movements) (i : ℕ) : Type 0 where
  pub values : List ℕ
  pub spelled : Spells 9 row values
  pub has : HasAt m.flights i values
  pub circuit : get_or m.circuits i 0 ≡ slice_index values 8

-- the flights of a file are those that its rows spell, in their order
pub record TracksOf (file : List ℕ) (t : Flights) : Type 0 where
  pub many= : many t ≡ length (rows_of file)
  pub each : (i : ℕ) → i < length (rows_of file) → TrackAt (slice_index_or (rows_of file) i []) t i

pub record MovementsOf (file : List ℕ) (m : Movements) : Type 0 where
  pub many= : many m.flights ≡ length (rows_of file)
  pub each : (i : ℕ) → i < length (rows_of file) → MovementAt (slice_index_or (rows_of file) i []) m i

-- A line of the output: the id as it is spelled, a comma, and the number of the track as it is spelled, or nothing;
-- answer 0 is none, and answer j + 1 is track j of tracks.csv counted from 0
pub record LineSays (tracks movement line : List ℕ) (answer : ℕ) : Type 0 where
  pub commas : count_of 44 line ≡ 1
  pub id : field_of 44 0 line ≡ column movement 0
  pub none : answer ≡ 0 → field_of 44 1 line ≡ []
  pub track : (j : ℕ) → answer ≡ suc j → field_of 44 1 line ≡ column (slice_index_or (rows_of tracks) j []) 0

-- Where nothing is refused
pub record CoupledSays (tracks movements : List ℕ) : Type 0 where
  -- the flights of the rows, in their order, and which track each movement takes
  pub m : Movements
  pub t : Flights
  pub answer : List ℕ
  pub of_movements : MovementsOf movements m
  pub of_tracks : TracksOf tracks t
  pub coupled : Coupled m t answer
  -- a heading, and a line for each row of the movements in the order given
  pub heading : get_or (lines_of (coupled_text tracks movements)) 0 [] ≡ bytes "id,track"
  pub lines : length (lines_of (coupled_text tracks movements)) ≡ 1 + length (rows_of movements)
  pub each : (i : ℕ) → i < length (rows_of movements)
      → LineSays tracks (slice_index_or (rows_of movements) i [])
      (slice_index_or (lines_of (coupled_text tracks movements)) (suc i) [])
      (slice_index answer i)
  -- the last line has its CRLF too
  pub before : List ℕ
  pub last : coupled_text tracks movements ≡ before ++ (13 ∷ 10 ∷ [])

-- A refusal is one line and nothing else, to the last byte
pub record RefusedBy (columns : ℕ) (header file text : List ℕ) : Type 0 where
  pub number : ℕ
  pub line : ℕ
  pub refused : Refused columns header file number line
  pub back : Refuses text number line
  pub told : text ≡ bytes "refused," ++ (show_number number ++ (bytes "," ++ (show_number line ++ (13 ∷ 10 ∷ []))))

-- Tracks are coupled exactly if both files are right; else tracks.csv is refused, or the movements where it is right
pub record CoupledExactly (tracks movements : List ℕ) : Type 0 where
  pub exactly : get_or (lines_of (coupled_text tracks movements)) 0 [] ≡ bytes "id,track"
      ↔ RightTracks tracks × RightMovements movements
  pub by_tracks : (RightTracks tracks → ⊥) → RefusedBy 8 track_heading tracks (coupled_text tracks movements)
  pub by_movements : RightTracks tracks → (RightMovements movements → ⊥)
      → RefusedBy 9 movement_heading movements (coupled_text tracks movements)
