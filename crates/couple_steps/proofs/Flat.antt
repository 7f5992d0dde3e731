-- Tables as the code keeps them, once both files are read: they may be coupled, and their sheet is that of their rows.
-- Assumes nothing.
use Rattle.refusal.specs.Refusal.{told}
use Rattle.std.specs.Prelude.{ℕ, suc, ◌+◌, ◌-◌, ◌*◌, ◌<◌, ◌≤◌}
use mathlib.Core.{Path.◌≡◌, Path.refl, Path.sym, Path.ap, Path.subst, Path.◌∙◌, Bool.true, List.List, List.[], List.◌∷◌}
use native.Mathlib.Omega.{arith}
use lib.{ListN.length, ListN.get_or, Dec.eqb}
use borrow.Author.Tests.{eqb-true, eqb-false}
use Rattle.channel.specs.System.Origin.{input}
use Rattle.room.specs.Room.{front}
use Rattle.room.proofs.Fronts.{front_at}
use Rattle.text.specs.{Number.show_number, Sheet.ended, Sheet.line, Spelled.bytes}
use Rattle.text.proofs.{Digits.either, Indices.length_listing, Indices.listing_same}
use Rattle.coupling_rules.specs.{Limits.max_flights, Flights.Movements, Flights.Flights, Flights.many, Rule.tracks_for}
use Rattle.coupling_rules.specs.Promises.{Coupled}
use Rattle.coupling_rules.specs.Refusals.{flights_fit, movements_fit}
use Rattle.coupling_rules.specs.Tables.{flights_in, movements_in}
use Rattle.stream.specs.declared.Turn.{Turn}
use Rattle.stream.specs.Reading.{Reading}
use Rattle.stream.specs.Feeding.{ReadWhole}
use Rattle.couple_steps.specs.Table.{Rows, table_step, table_of, column_of, flights_of, movements_of}
use Rattle.couple_steps.specs.Sheet.{answers_of, track_text, flight_line, sheet_text, coupled_sheet}
use Rattle.couple_steps.specs.Right.{track_heading, movement_heading, RightTracks, RightMovements}
use Rattle.couple_steps.specs.Written.{tracks_origin}
use Rattle.couple_steps.specs.InnerTable.{row_in, rows_in, held_in, Roomy}
use Rattle.couple_steps.proofs.Rights.{accepted_right, track_headed, movement_headed}
use Rattle.couple_steps.proofs.Held.{held_few, tracks_fit, moves_fit}
use Rattle.couple_steps.proofs.Columns.{column_long, cell_in, flights_in_rule, movements_in_rule}

rows_long : (columns : ℕ) (flat : List ℕ) (n : ℕ) → length (rows_in columns flat n) ≡ n
rows_long columns flat n = length_listing (row_in columns flat) n

-- What was read and not refused may be coupled

module _ {t : Turn} (flat : List ℕ) (w : ReadWhole tracks_origin (table_step 8) [] t (held_in 8 flat t.line))
    (z : told t.refusal ≡ 0) where
  tracks_held : (table_of 8 w.all).held ≡ rows_in 8 flat (t.line - 2)
  tracks_held = ap (λ (s : Reading Rows). s.held) (sym w.is)

  tracks_right : RightTracks w.all
  tracks_right =
      accepted_right 8 track_heading track_headed w.all (ap (λ (s : Reading Rows). s.refusal) (sym w.is) ∙ z)

  pub tracks_few : t.line - 2 ≤ max_flights
  tracks_few =
      let most = held_few 8 track_heading track_headed (omega arith) w.all tracks_right in
      omega (arith, most, ap length tracks_held, rows_long 8 flat (t.line - 2))

  tracks_row_fit : flights_fit (flights_of (rows_in 8 flat (t.line - 2))) ≡ true
  tracks_row_fit =
      subst (λ (rows : Rows). flights_fit (flights_of rows) ≡ true) tracks_held (tracks_fit w.all tracks_right)

  pub tracks_ready : Roomy 8 flat → flights_fit (flights_in flat (t.line - 2)) ≡ true
  tracks_ready room =
      subst (λ (f : Flights). flights_fit f ≡ true) (sym (flights_in_rule room (t.line - 2) tracks_few (omega arith)))
      tracks_row_fit

module _ {t : Turn} (flat : List ℕ) (w : ReadWhole input (table_step 9) [] t (held_in 9 flat t.line))
    (z : told t.refusal ≡ 0) where
  moves_held : (table_of 9 w.all).held ≡ rows_in 9 flat (t.line - 2)
  moves_held = ap (λ (s : Reading Rows). s.held) (sym w.is)

  moves_right : RightMovements w.all
  moves_right =
      accepted_right 9 movement_heading movement_headed w.all
      (ap (λ (s : Reading Rows). s.refusal) (sym w.is) ∙ z)

  pub moves_few : t.line - 2 ≤ max_flights
  moves_few =
      let most = held_few 9 movement_heading movement_headed (omega arith) w.all moves_right in
      omega (arith, most, ap length moves_held, rows_long 9 flat (t.line - 2))

  moves_row_fit : movements_fit (movements_of (rows_in 9 flat (t.line - 2))) ≡ true
  moves_row_fit =
      subst (λ (rows : Rows). movements_fit (movements_of rows) ≡ true) moves_held (moves_fit w.all moves_right)

  pub moves_ready : Roomy 9 flat → movements_fit (movements_in flat (t.line - 2)) ≡ true
  moves_ready room =
      subst (λ (m : Movements). movements_fit m ≡ true)
      (sym (movements_in_rule room (t.line - 2) moves_few (omega arith)))
      moves_row_fit

-- The sheet of two tables

-- column 0 stands at the front of its table
first_column_lem : (columns : ℕ) (flat : List ℕ) (n i : ℕ) → 1 ≤ columns → i < n
    → get_or flat i 0 ≡ get_or (column_of 0 (rows_in columns flat n)) i 0
first_column_lem columns flat n i some low =
    let e : i ≡ 0 * max_flights + i = omega arith in
    ap (λ (k : ℕ). get_or flat k 0) e ∙ sym (cell_in columns flat n 0 i (omega arith) low)

track_same : (flat : List ℕ) (n answer : ℕ) → answer ≤ n
    → track_text flat answer ≡ track_text (column_of 0 (rows_in 8 flat n)) answer
track_same flat n answer most =
    either (eqb answer 0)
    (λ yes. rw yes refl)
    (λ no. let some = eqb-false answer 0 no in
    let low : answer - 1 < n = omega (arith, some) in
    rw no (ap show_number (first_column_lem 8 flat n (answer - 1) (omega arith) low)))

module _ (ids numbers room : List ℕ) (m n : ℕ) (fits : Roomy 9 ids) (also : Roomy 8 numbers) (few : m ≤ max_flights)
    (most : n ≤ max_flights)
    (coupled : Coupled (movements_in ids m) (flights_in numbers n)
    (tracks_for (movements_in ids m) (flights_in numbers n))) where
  abbrev given : List ℕ
  given = tracks_for (movements_in ids m) (flights_in numbers n)

  abbrev answers : List ℕ
  answers = front given room

  given_is : given ≡ answers_of (rows_in 8 numbers n) (rows_in 9 ids m)
  given_is =
      ap (λ (x : Movements). tracks_for x (flights_in numbers n)) (movements_in_rule fits m few (omega arith))
      ∙ ap (λ (y : Flights). tracks_for (movements_of (rows_in 9 ids m)) y) (flights_in_rule also n most (omega arith))

  tracks_many : many (flights_in numbers n) ≡ n
  tracks_many =
      ap many (flights_in_rule also n most (omega arith)) ∙ column_long 1 (rows_in 8 numbers n) ∙ rows_long 8 numbers n

  moves_many : many (movements_in ids m).flights ≡ m
  moves_many =
      ap (λ (x : Movements). many x.flights) (movements_in_rule fits m few (omega arith))
      ∙ column_long 1 (rows_in 9 ids m) ∙ rows_long 9 ids m

  answer_most : (i : ℕ) → i < m → get_or given i 0 ≤ n
  answer_most i h =
      let a = get_or given i 0 in
      either (eqb a 0)
      (λ yes. omega (arith, eqb-true a 0 yes))
      (λ no. let some = eqb-false a 0 no in
      let is : a ≡ suc (a - 1) = omega (arith, some) in
      let here : i < many (movements_in ids m).flights = subst (λ (k : ℕ). i < k) (sym moves_many) h in
      let low : a - 1 < n = subst (λ (k : ℕ). a - 1 < k) tracks_many (coupled.agrees i (a - 1) here is).0.there in
      omega (arith, low))

  answer_at : (i : ℕ) → i < m → get_or answers i 0 ≡ get_or given i 0
  answer_at i h = front_at given room i 0 (subst (λ (k : ℕ). i < k) (sym (coupled.each ∙ moves_many)) h)

  line_same : (i : ℕ) → i < m
      → flight_line ids numbers answers i
      ≡ flight_line (column_of 0 (rows_in 9 ids m)) (column_of 0 (rows_in 8 numbers n)) given i
  line_same i h =
      let track : track_text numbers (get_or answers i 0)
      ≡ track_text (column_of 0 (rows_in 8 numbers n)) (get_or given i 0) =
      ap (track_text numbers) (answer_at i h) ∙ track_same numbers n (get_or given i 0) (answer_most i h) in
      ap (λ (id : ℕ). line (show_number id ∷ track_text numbers (get_or answers i 0) ∷ []))
      (first_column_lem 9 ids m i (omega arith) h)
      ∙ ap (λ (text : List ℕ). line (show_number (get_or (column_of 0 (rows_in 9 ids m)) i 0) ∷ text ∷ [])) track

  pub sheet_same : sheet_text ids numbers answers m ≡ coupled_sheet (rows_in 8 numbers n) (rows_in 9 ids m)
  unfolding sheet_text
  sheet_same =
      let left = column_of 0 (rows_in 9 ids m) in
      let right = column_of 0 (rows_in 8 numbers n) in
      ap (λ (ls : List (List ℕ)). ended (bytes "id,track" ∷ ls))
      (listing_same (flight_line ids numbers answers) (flight_line left right given) m line_same)
      ∙ ap (λ (a : List ℕ). sheet_text left right a m) given_is
      ∙ ap (sheet_text left right (answers_of (rows_in 8 numbers n) (rows_in 9 ids m))) (sym (rows_long 9 ids m))
