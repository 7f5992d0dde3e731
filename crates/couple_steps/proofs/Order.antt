-- The sheet in its order: the heading, and the lines from a movement on. Assumes nothing.
use Rattle.std.specs.Prelude.{ℕ, suc, ◌+◌, ◌*◌, ◌<◌, ◌≤◌, List, [], ◌∷◌, ◌++◌}
use mathlib.Core.{Path.◌≡◌, Path.refl, Path.sym, Path.ap, Path.subst, Bool.Bool, Bool.true}
use native.Mathlib.Omega.{arith}
use lib.{ListN.length, ListN.get_or, ListN.length-append, ListN.drop_of_length-le, Dec.eqb}
use Rattle.channel.specs.Due.{Due, Sends}
use Rattle.channel.proofs.Dues.{due_whole, due_front, due_rest, Rest, rest_all, rest_next_lem}
use Rattle.text.specs.{Number.show_number, Field.joined_by, Index.listing, Spelled.crlf, Sheet.ended}
use Rattle.text.proofs.{Digits.either, Shown.number_short, Indices.length_listing, Indices.listing_at}
use Rattle.couple_steps.specs.Sheet.{track_text, flight_line, sheet_text}
use Rattle.couple_steps.specs.InnerSheet.{heading_text, lines_from}

-- lines of at most 41 bytes, with their ends
ended_most : (ls : List (List ℕ)) → ((i : ℕ) → i < length ls → length (get_or ls i []) ≤ 41)
    → length (ended ls) ≤ 43 * length ls
unfolding ended
ended_most [] h = omega arith
ended_most (l ∷ ls) h =
    let rest = ended_most ls (λ i low. h (suc i) (omega arith)) in
    omega (arith, h 0 (omega arith), rest, length-append l (crlf ++ ended ls), length-append crlf (ended ls))

module _ (ids numbers answers : List ℕ) where
  track_short : (answer : ℕ) → length (track_text numbers answer) ≤ 20
  track_short answer =
      either (eqb answer 0) (λ yes. rw yes (omega arith)) (λ no. rw no (number_short _))

  line_short : (i : ℕ) → length (flight_line ids numbers answers i) ≤ 41
  unfolding joined_by
  line_short i =
      let id = show_number (get_or ids i 0) in
      let track = track_text numbers (get_or answers i 0) in
      omega (arith, length-append id (44 ∷ track), number_short (get_or ids i 0), track_short (get_or answers i 0))

  module _ (many : ℕ) where
    sheet_is : sheet_text ids numbers answers many ≡ heading_text ++ lines_from ids numbers answers many 0
    unfolding sheet_text ended
    sheet_is = refl

    -- a machine's word counts the whole sheet
    pub sheet_short : length (sheet_text ids numbers answers many) ≤ 10 + 43 * many
    sheet_short =
        let f = flight_line ids numbers answers in
        let lines = listing f many in
        let each : (i : ℕ) → i < length lines → length (get_or lines i []) ≤ 41 =
        λ i h. rw (listing_at f many i [] (omega (arith, length_listing f many))) (line_short i) in
        omega (
          arith,
          ap length sheet_is,
          length-append heading_text (ended lines),
          ended_most lines each,
          length_listing f many,
        )

    sheet_due : Due (sheet_text ids numbers answers many) 0 (heading_text ++ lines_from ids numbers answers many 0)
    sheet_due =
        subst (λ (text : List ℕ). Due text 0 (heading_text ++ lines_from ids numbers answers many 0)) (sym sheet_is)
        (due_whole (heading_text ++ lines_from ids numbers answers many 0))

    sheet_rest : Rest 0 (sheet_text ids numbers answers many) 0 (heading_text ++ lines_from ids numbers answers many 0)
    sheet_rest =
        subst (λ (text : List ℕ). Rest 0 text 0 (heading_text ++ lines_from ids numbers answers many 0)) (sym sheet_is)
        (rest_all 0 (heading_text ++ lines_from ids numbers answers many 0))

    -- the heading is due, and then the lines from the first movement on, which end the sheet
    pub heading_due : Due (sheet_text ids numbers answers many) 0 heading_text
    heading_due = due_front heading_text (lines_from ids numbers answers many 0) sheet_due

    pub lines_due : (at : ℕ) → at ≡ 0 + length heading_text
        → Due (sheet_text ids numbers answers many) at (lines_from ids numbers answers many 0)
    lines_due at e = rw e (due_rest heading_text (lines_from ids numbers answers many 0) sheet_due)

    pub lines_rest : {at : ℕ} {r : Bool} → r ≡ true → Sends 0 heading_text r at
        → Rest 0 (sheet_text ids numbers answers many) at (lines_from ids numbers answers many 0)
    lines_rest e s = rest_next_lem heading_text (lines_from ids numbers answers many 0) sheet_rest e s

    pub lines_none : (i : ℕ) → many ≤ i → lines_from ids numbers answers many i ≡ []
    unfolding ended
    lines_none i h =
        let ls = listing (flight_line ids numbers answers) many in
        let past : length ls ≤ i = omega (arith, length_listing (flight_line ids numbers answers) many) in
        rw (drop_of_length-le ls past) refl
