-- The lines of the sheet, read back from its bytes: each has an id and a track, or nothing. Assumes nothing.
use Rattle.std.specs.Prelude.{ℕ, zero, suc, ◌-◌, ◌<◌, List, [], ◌∷◌, ◌++◌}
use mathlib.Core.{Path.◌≡◌, Path.refl, Path.sym, Path.ap, Path.◌∙◌}
use mathlib.Core.List.{append_assoc}
use native.Mathlib.Omega.{arith}
use lib.{ListN.get_or, Dec.eqb}
use borrow.Author.Tests.{ne_eqb}
use Rattle.text.specs.{Line.lines_of, Field.count_of, Field.field_of, Number.show_number, Index.listing, Spelled.bytes}
use Rattle.text.specs.{Spelled.crlf, Sheet.ended}
use Rattle.text.proofs.{Digits.either, Fields.Free, Fields.join_field, Fields.join_count}
use Rattle.text.proofs.Free.{shown_free, nil_free}
use Rattle.text.proofs.Indices.{length_listing, listing_at}
use Rattle.text.proofs.Sheets.{lines_ended, at_least, least_free, joined_free}
use Rattle.couple_steps.specs.Sheet.{track_text, flight_line, sheet_text}

-- A text that has lines ends in CRLF

pub record Closed (text : List ℕ) : Type 0 where
  pub before : List ℕ
  pub last : text ≡ before ++ (13 ∷ 10 ∷ [])

closed_behind : (a b : List ℕ) → Closed b → Closed (a ++ b)
closed_behind a b c =
    record {
      before = a ++ c.before;
      last = ap (λ (t : List ℕ). a ++ t) c.last ∙ sym (append_assoc a c.before (13 ∷ 10 ∷ []));
    }

closed_lines : (l : List ℕ) (ls : List (List ℕ)) → Closed (ended (l ∷ ls))
unfolding ended
closed_lines l [] = record { before = l; last = refl }
closed_lines l (m ∷ ls) =
    closed_behind l (crlf ++ ended (m ∷ ls)) (closed_behind crlf (ended (m ∷ ls)) (closed_lines m ls))

module _ (ids numbers answers : List ℕ) where
  abbrev fields : ℕ → List (List ℕ)
  fields i = show_number (get_or ids i 0) ∷ track_text numbers (get_or answers i 0) ∷ []

  track_free : (d : ℕ) → d < 46 → (answer : ℕ) → count_of d (track_text numbers answer) ≡ 0
  track_free d low answer =
      either (eqb answer 0)
      (λ yes. rw yes (nil_free d low))
      (λ no. rw no (shown_free d low 20 (get_or numbers (answer - 1) 0)))

  fields_free : (d : ℕ) → d < 46 → (i : ℕ) → Free d (fields i)
  fields_free d low i zero h = shown_free d low 20 (get_or ids i 0)
  fields_free d low i (suc zero) h = track_free d low (get_or answers i 0)
  fields_free d low i (suc (suc k)) h = absurd (omega arith)

  pub id_field : (i : ℕ) → field_of 44 0 (flight_line ids numbers answers i) ≡ show_number (get_or ids i 0)
  id_field i = join_field 44 (fields i) (fields_free 44 (omega arith) i) 0 (omega arith)

  pub track_field : (i : ℕ) → field_of 44 1 (flight_line ids numbers answers i)
      ≡ track_text numbers (get_or answers i 0)
  track_field i = join_field 44 (fields i) (fields_free 44 (omega arith) i) 1 (omega arith)

  pub one_comma : (i : ℕ) → count_of 44 (flight_line ids numbers answers i) ≡ 1
  one_comma i =
      join_count 44 (show_number (get_or ids i 0)) (track_text numbers (get_or answers i 0) ∷ [])
      (fields_free 44 (omega arith) i)

  -- the whole sheet
  sheet_free : (many : ℕ) → Free 13 (bytes "id,track" ∷ listing (flight_line ids numbers answers) many)
  unfolding at_least
  sheet_free many zero h = least_free 14 13 (omega arith) (bytes "id,track") refl
  sheet_free many (suc i) h =
      let f = flight_line ids numbers answers in
      let low : i < many = omega (arith, length_listing f many) in
      rw (listing_at f many i [] low)
      (joined_free 13 (fields i) (λ e. absurd (omega arith)) (fields_free 13 (omega arith) i))

  pub sheet_lines : (many : ℕ) → lines_of (sheet_text ids numbers answers many)
      ≡ bytes "id,track" ∷ listing (flight_line ids numbers answers) many
  unfolding sheet_text
  sheet_lines many =
      lines_ended (bytes "id,track" ∷ listing (flight_line ids numbers answers) many) (sheet_free many)

  pub sheet_closed : (many : ℕ) → Closed (sheet_text ids numbers answers many)
  unfolding sheet_text
  sheet_closed many = closed_lines (bytes "id,track") (listing (flight_line ids numbers answers) many)

-- none, and some
pub track_blank : (numbers : List ℕ) (answer : ℕ) → answer ≡ 0 → track_text numbers answer ≡ []
track_blank numbers answer z = rw z refl

pub track_number : (numbers : List ℕ) (answer j : ℕ) → answer ≡ suc j
    → track_text numbers answer ≡ show_number (get_or numbers j 0)
track_number numbers answer j e =
    let one : suc j - 1 ≡ j = omega arith in
    rw (e, one, ne_eqb (suc j) 0 (λ z. absurd (omega arith))) refl
