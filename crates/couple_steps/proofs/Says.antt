-- What the program writes, by its bytes: a line for each movement where both files are right, and else one refusal.
-- Assumes nothing.
use Rattle.std.specs.Prelude.{ℕ, suc, ◌<◌, List, [], ◌∷◌, ◌++◌}
use mathlib.Core.{Path.◌≡◌, Path.refl, Path.sym, Path.ap, Path.◌∙◌, Logic.◌↔◌}
use mathlib.Core.List.{append_assoc}
use native.Mathlib.Omega.{arith}
use lib.{ListN.length, ListN.get_or, Dec.eqb}
use borrow.Author.Tests.{ne_eqb, eqb-true, eqb-false}
use Rattle.text.specs.{Line.lines_of, Field.field_of, Field.up_to, Field.joined_by, Number.show_number, Index.listing}
use Rattle.text.specs.{Spelled.bytes, Sheet.ended, Sheet.refused_text}
use Rattle.text.proofs.{Digits.either, Shown.whole_number_lem, Indices.length_listing, Indices.listing_at}
use Rattle.text.proofs.{Sheets.refuses}
use Rattle.coupling_rules.specs.{Promises.Coupled}
use Rattle.flights.specs.{Row.flight_of, Spelled.Spells, Spelled.column, Header.header_refusal}
use Rattle.couple_steps.specs.Table.{table_of, column_of, flights_of, movements_of}
use Rattle.couple_steps.specs.Sheet.{answers_of, flight_line, coupled_sheet, coupled_text}
use Rattle.couple_steps.specs.Right.{track_heading, movement_heading, rows_of, RightTracks, RightMovements}
use Rattle.couple_steps.specs.Said.{LineSays, CoupledSays, RefusedBy, CoupledExactly}
use Rattle.couple_steps.proofs.Rights.{accepted_right, right_accepted, file_refused}
use Rattle.couple_steps.proofs.Rights.{track_headed, movement_headed}
use Rattle.couple_steps.proofs.Held.{held_long, held_many, value_held, spelled, tracks_spelled}
use Rattle.couple_steps.proofs.Held.{movements_spelled}
use Rattle.couple_steps.proofs.Lines.{id_field, track_field, one_comma, sheet_lines, sheet_closed, track_blank}
use Rattle.couple_steps.proofs.Lines.{track_number}

-- The three texts

pub text_coupled : (tracks movements : List ℕ) → (table_of 8 tracks).refusal ≡ 0 → (table_of 9 movements).refusal ≡ 0
    → coupled_text tracks movements ≡ coupled_sheet (table_of 8 tracks).held (table_of 9 movements).held
unfolding coupled_text
text_coupled tracks movements t m = rw (t, m) refl

pub text_movements : (tracks movements : List ℕ) → (table_of 8 tracks).refusal ≡ 0
    → ((table_of 9 movements).refusal ≡ 0 → ⊥)
    → coupled_text tracks movements ≡ refused_text (table_of 9 movements).refusal (table_of 9 movements).line
unfolding coupled_text
text_movements tracks movements t ne = rw (t, ne_eqb (table_of 9 movements).refusal 0 ne) refl

pub text_tracks : (tracks movements : List ℕ) → ((table_of 8 tracks).refusal ≡ 0 → ⊥)
    → coupled_text tracks movements ≡ refused_text (table_of 8 tracks).refusal (table_of 8 tracks).line
unfolding coupled_text
text_tracks tracks movements ne = rw (ne_eqb (table_of 8 tracks).refusal 0 ne) refl

-- A number as its row spells it
module _ (columns : ℕ) (row : List ℕ) (s : Spells columns row (flight_of columns row).values) where
  as_spelled : show_number (get_or (flight_of columns row).values 0 0) ≡ column row 0
  as_spelled = whole_number_lem (get_or (flight_of columns row).values 0 0) s.number< ∙ sym s.number

-- Where both files are right
module _ (tracks movements : List ℕ) (rt : RightTracks tracks) (rm : RightMovements movements) where
  abbrev ids : List ℕ
  ids = column_of 0 (table_of 9 movements).held

  abbrev numbers : List ℕ
  numbers = column_of 0 (table_of 8 tracks).held

  abbrev answers : List ℕ
  answers = answers_of (table_of 8 tracks).held (table_of 9 movements).held

  lines_are : lines_of (coupled_text tracks movements)
      ≡ bytes "id,track" ∷ listing (flight_line ids numbers answers) (length (table_of 9 movements).held)
  lines_are =
      ap lines_of (text_coupled tracks movements (right_accepted 8 track_heading track_headed tracks rt)
      (right_accepted 9 movement_heading movement_headed movements rm))
      ∙ sheet_lines ids numbers answers (length (table_of 9 movements).held)

  line_is : (i : ℕ) → i < length (rows_of movements)
      → get_or (lines_of (coupled_text tracks movements)) (suc i) [] ≡ flight_line ids numbers answers i
  line_is i h =
      let long = held_long 9 movement_heading movement_headed (omega arith) movements rm in
      ap (λ (ls : List (List ℕ)). get_or ls (suc i) []) lines_are
      ∙ listing_at (flight_line ids numbers answers) (length (table_of 9 movements).held) i [] (omega (arith, long))

  -- the id of a movement, and the number of a track
  id_is_rule : (i : ℕ) → i < length (rows_of movements)
      → field_of 44 0 (flight_line ids numbers answers i) ≡ column (get_or (rows_of movements) i []) 0
  id_is_rule i h =
      id_field ids numbers answers i
      ∙ ap show_number (value_held 9 movement_heading movement_headed (omega arith) movements rm i 0 h (omega arith))
      ∙ as_spelled 9 (get_or (rows_of movements) i [])
      (spelled 9 movement_heading movement_headed (omega arith) movements rm i h)

  heading_is : get_or (lines_of (coupled_text tracks movements)) 0 [] ≡ bytes "id,track"
  heading_is = ap (λ (ls : List (List ℕ)). get_or ls 0 []) lines_are

  module _ (c : Coupled (movements_of (table_of 9 movements).held) (flights_of (table_of 8 tracks).held)
      (answers_of (table_of 8 tracks).held (table_of 9 movements).held)) where
    track_is : (i j : ℕ) → i < length (rows_of movements) → get_or answers i 0 ≡ suc j
        → field_of 44 1 (flight_line ids numbers answers i) ≡ column (get_or (rows_of tracks) j []) 0
    track_is i j h e =
        let here : i < length (column_of 1 (table_of 9 movements).held) =
        omega (arith, held_many 9 movement_heading movement_headed (omega arith) movements rm) in
        let low : j < length (rows_of tracks) =
        omega (arith, (c.agrees i j here e).0.there, held_many 8 track_heading track_headed (omega arith) tracks rt) in
        track_field ids numbers answers i ∙ track_number numbers (get_or answers i 0) j e
        ∙ ap show_number (value_held 8 track_heading track_headed (omega arith) tracks rt j 0 low (omega arith))
        ∙ as_spelled 8 (get_or (rows_of tracks) j [])
        (spelled 8 track_heading track_headed (omega arith) tracks rt j low)

    line_says : (i : ℕ) → i < length (rows_of movements)
        → LineSays tracks (get_or (rows_of movements) i [])
        (get_or (lines_of (coupled_text tracks movements)) (suc i) [])
        (get_or answers i 0)
    line_says i h =
        let is = line_is i h in
        record {
          commas = rw is (one_comma ids numbers answers i);
          id = rw is (id_is_rule i h);
          none = λ z. rw is (track_field ids numbers answers i ∙ track_blank numbers (get_or answers i 0) z);
          track = λ j e. rw is (track_is i j h e);
        }

    pub says_so : CoupledSays tracks movements
    says_so =
        let long = held_long 9 movement_heading movement_headed (omega arith) movements rm in
        let closed = sheet_closed ids numbers answers (length (table_of 9 movements).held) in
        let listed = length_listing (flight_line ids numbers answers) (length (table_of 9 movements).held) in
        record {
          m = movements_of (table_of 9 movements).held;
          t = flights_of (table_of 8 tracks).held;
          answer = answers;
          of_movements = movements_spelled movements rm;
          of_tracks = tracks_spelled tracks rt;
          coupled = c;
          heading = heading_is;
          lines = ap length lines_are ∙ omega (arith, long, listed);
          each = line_says;
          before = closed.before;
          last = text_coupled tracks movements (right_accepted 8 track_heading track_headed tracks rt)
              (right_accepted 9 movement_heading movement_headed movements rm) ∙ closed.last;
        }

-- Refusals

spelled_out : (number line : ℕ) → refused_text number line
    ≡ bytes "refused," ++ (show_number number ++ (bytes "," ++ (show_number line ++ (13 ∷ 10 ∷ []))))
unfolding refused_text ended joined_by
spelled_out number line = simp append_assoc

module _ (columns : ℕ) (heading : List ℕ) (headed : (line : List ℕ) → header_refusal columns line ≡ 0 ↔ line ≡ heading)
    (file text : List ℕ) (ne : (table_of columns file).refusal ≡ 0 → ⊥)
    (e : text ≡ refused_text (table_of columns file).refusal (table_of columns file).line) where
  refused_by : RefusedBy columns heading file text
  refused_by =
      let number = (table_of columns file).refusal in
      let line = (table_of columns file).line in
      record {
        number = number;
        line = line;
        refused = file_refused columns heading headed file ne;
        back = refuses text number line e;
        told = e ∙ spelled_out number line;
      }

-- a refusal's line is no heading
not_heading : (text : List ℕ) (number line : ℕ) → text ≡ refused_text number line
    → get_or (lines_of text) 0 [] ≡ bytes "id,track" → ⊥
unfolding field_of up_to
not_heading text number line is e =
    let never : field_of 44 0 (bytes "id,track") ≡ bytes "refused" =
    ap (field_of 44 0) (sym e) ∙ (refuses text number line is).word in
    omega (arith, ap length never)

module _ (tracks movements : List ℕ) where
  abbrev t : ℕ
  t = (table_of 8 tracks).refusal

  abbrev m : ℕ
  m = (table_of 9 movements).refusal

  both_right : get_or (lines_of (coupled_text tracks movements)) 0 [] ≡ bytes "id,track"
      → RightTracks tracks × RightMovements movements
  both_right e =
      either (eqb t 0)
      (λ yes. let fine = eqb-true t 0 yes in
      either (eqb m 0)
      (λ also. (
        accepted_right 8 track_heading track_headed tracks fine,
        accepted_right 9 movement_heading movement_headed movements (eqb-true m 0 also),
      ))
      (λ no. absurd (not_heading (coupled_text tracks movements) m (table_of 9 movements).line
      (text_movements tracks movements fine (eqb-false m 0 no)) e)))
      (λ no. absurd (not_heading (coupled_text tracks movements) t (table_of 8 tracks).line
      (text_tracks tracks movements (eqb-false t 0 no)) e))

  pub coupled_exactly : CoupledExactly tracks movements
  coupled_exactly =
      record {
        exactly = (both_right, λ right. heading_is tracks movements right.0 right.1);
        by_tracks = λ wrong.
            let ne : t ≡ 0 → ⊥ = λ z. wrong (accepted_right 8 track_heading track_headed tracks z) in
            refused_by 8 track_heading track_headed tracks (coupled_text tracks movements) ne
            (text_tracks tracks movements ne);
        by_movements = λ right wrong.
            let fine = right_accepted 8 track_heading track_headed tracks right in
            let ne : m ≡ 0 → ⊥ = λ z. wrong (accepted_right 9 movement_heading movement_headed movements z) in
            refused_by 9 movement_heading movement_headed movements (coupled_text tracks movements) ne
            (text_movements tracks movements fine ne);
      }
