-- What is held of a file that is right: the numbers that its rows spell, in their order and in their range.
-- Assumes nothing.
use Rattle.std.specs.Prelude.{ℕ, zero, suc, ◌<◌, ◌≤◌, length, get_or}
use mathlib.Core.{Path.◌≡◌, Path.refl, Path.ap, Path.◌∙◌, Bool.true, Logic.◌↔◌, List.List, List.[], List.◌∷◌, List.map}
use native.Mathlib.Omega.{arith}
use lib.ListN.{length-map}
use Rattle.text.proofs.Indices.{listing_at}
use Rattle.flights.specs.{Row.flight_of, Header.header_refusal, Spelled.Spells}
use Rattle.flights.proofs.{Exact.row_exactly, Ranges.flight_range}
use Rattle.coupling_rules.specs.Refusals.{flights_fit, movements_fit}
use Rattle.couple_steps.specs.Table.{Rows, numbers_of, table_of, column_of, flights_of, movements_of}
use Rattle.couple_steps.specs.Right.{track_heading, movement_heading, rows_of, Right, RightTracks, RightMovements}
use Rattle.couple_steps.specs.Said.{HasAt, TracksOf, MovementsOf}
use Rattle.couple_steps.proofs.Columns.{column_long, column_at_lem, RowFits, flights_fit_rule, movements_fit_rule}
use Rattle.couple_steps.proofs.Rights.{reads_row, right_accepted, file_held, track_headed, movement_headed}

map_at : {A B : Type 0} (f : A → B) (l : List A) (i : ℕ) (d : A) (e : B) → i < length l
    → get_or (map f l) i e ≡ f (get_or l i d)
map_at f [] i d e h = absurd (omega arith)
map_at f (a ∷ l) zero d e h = refl
map_at f (a ∷ l) (suc i) d e h = map_at f l i d e (omega arith)

module _ (columns : ℕ) (heading : List ℕ) (headed : (line : List ℕ) → header_refusal columns line ≡ 0 ↔ line ≡ heading)
    (least : 8 ≤ columns) (file : List ℕ) (right : Right columns heading file) where
  abbrev row : ℕ → List ℕ
  row i = get_or (rows_of file) i []

  is : (table_of columns file).held ≡ map (numbers_of columns) (rows_of file)
  is = file_held columns file (right_accepted columns heading headed file right)

  pub held_long : length (table_of columns file).held ≡ length (rows_of file)
  held_long = ap length is ∙ length-map (rows_of file) (numbers_of columns)

  row_held_rule : (i : ℕ) → i < length (rows_of file) → get_or (table_of columns file).held i []
      ≡ numbers_of columns (row i)
  row_held_rule i h = ap (λ (rows : Rows). get_or rows i []) is ∙ map_at (numbers_of columns) (rows_of file) i [] [] h

  number_held : (i k : ℕ) → i < length (rows_of file) → k < columns
      → get_or (get_or (table_of columns file).held i []) k 0 ≡ get_or (flight_of columns (row i)).values k 0
  number_held i k h few =
      ap (λ (numbers : List ℕ). get_or numbers k 0) (row_held_rule i h)
      ∙ listing_at (λ j. get_or (flight_of columns (row i)).values j 0) columns k 0 few

  pub value_held : (i k : ℕ) → i < length (rows_of file) → k < columns
      → get_or (column_of k (table_of columns file).held) i 0 ≡ get_or (flight_of columns (row i)).values k 0
  value_held i k h few = column_at_lem k (table_of columns file).held i ∙ number_held i k h few

  accepted : (i : ℕ) → i < length (rows_of file) → (flight_of columns (row i)).refusal ≡ 0
  accepted i h = reads_row columns (row i) (right.each i h)

  pub spelled : (i : ℕ) → i < length (rows_of file) → Spells columns (row i) (flight_of columns (row i)).values
  spelled i h = ((row_exactly columns (row i)).on (accepted i h)).0

  row_fits : (i : ℕ) → i < length (table_of columns file).held → RowFits (get_or (table_of columns file).held i [])
  row_fits i l =
      let h : i < length (rows_of file) = omega (arith, held_long) in
      let range = flight_range columns (row i) (accepted i h) in
      record {
        date = rw (number_held i 1 h (omega arith)) range.date;
        time = rw (number_held i 2 h (omega arith)) range.time;
        class = rw (number_held i 3 h (omega arith)) range.class;
        kind = rw (number_held i 4 h (omega arith)) range.kind;
      }

  pub held_few : length (table_of columns file).held ≤ 50000
  held_few = omega (arith, held_long, right.few)

  pub held_fits : flights_fit (flights_of (table_of columns file).held) ≡ true
  held_fits = flights_fit_rule (table_of columns file).held held_few row_fits

  pub held_moves : movements_fit (movements_of (table_of columns file).held) ≡ true
  held_moves = movements_fit_rule (table_of columns file).held held_few row_fits

  -- the flights of the rows
  pub has_at : (i : ℕ) → i < length (rows_of file)
      → HasAt (flights_of (table_of columns file).held) i (flight_of columns (row i)).values
  has_at i h =
      record {
        date = value_held i 1 h (omega arith);
        time = value_held i 2 h (omega arith);
        class = value_held i 3 h (omega arith);
        kind = value_held i 4 h (omega arith);
        runway = value_held i 5 h (omega arith);
        airport = value_held i 6 h (omega arith);
        type = value_held i 7 h (omega arith);
      }

  pub held_many : length (column_of 1 (table_of columns file).held) ≡ length (rows_of file)
  held_many = column_long 1 (table_of columns file).held ∙ held_long

-- each of the two files
module _ (file : List ℕ) (right : RightTracks file) where
  pub tracks_fit : flights_fit (flights_of (table_of 8 file).held) ≡ true
  tracks_fit = held_fits 8 track_heading track_headed (omega arith) file right

  pub tracks_spelled : TracksOf file (flights_of (table_of 8 file).held)
  tracks_spelled =
      record {
        many= = held_many 8 track_heading track_headed (omega arith) file right;
        each = λ i h. record {
          values = (flight_of 8 (get_or (rows_of file) i [])).values;
          spelled = spelled 8 track_heading track_headed (omega arith) file right i h;
          has = has_at 8 track_heading track_headed (omega arith) file right i h;
        };
      }

module _ (file : List ℕ) (right : RightMovements file) where
  pub moves_fit : movements_fit (movements_of (table_of 9 file).held) ≡ true
  moves_fit = held_moves 9 movement_heading movement_headed (omega arith) file right

  pub movements_spelled : MovementsOf file (movements_of (table_of 9 file).held)
  movements_spelled =
      record {
        many= = held_many 9 movement_heading movement_headed (omega arith) file right;
        each = λ i h. record {
          values = (flight_of 9 (get_or (rows_of file) i [])).values;
          spelled = spelled 9 movement_heading movement_headed (omega arith) file right i h;
          has = has_at 9 movement_heading movement_headed (omega arith) file right i h;
          circuit = value_held 9 movement_heading movement_headed (omega arith) file right i 8 h (omega arith);
        };
      }
