-- Register rows written: from the library's answer to numbers in lent room. Assumes nothing.
use Prim.Native.Nat.{ℕ, ◌≤◌}
use mathlib.Core.{Path.◌≡◌, Path.refl, Path.sym, Path.ap, Path.◌∙◌, Bool.false, Bool.◌&&◌, Bool.and-true}
use mathlib.Core.List.{List, [], ◌∷◌}
use native.Mathlib.Omega.{arith}
use borrow.Author.Tests.{le-leb, ne_eqb, eq-eqb}
use lib.{Dec.leb, ListN.length, ListN.set}
use Rattle.room.specs.Room.{front, fits_in, then_room, WritesTwo}
use Rattle.register.specs.declared.row.Fields.{Fields}
use Rattle.std.specs.Prelude.{Result, Ok, Err}
use Rattle.refusal.specs.Refusal.{number_of}
use Rattle.refusal.specs.declared.Refusal.{Refusal}
use Rattle.refusal.proofs.Laws.{numbered}
use Rattle.register.specs.Write.{show_row, write_fault, write_refusal, RowWritten}
use Rattle.okubinrafo.specs.Rows.{field_count, fields_from, numbers_fault}
use Rattle.room.proofs.Answers.{front-sets, short_of_lem, fine_but_short, refuse_two, write_two}

-- 9 for a number of fields other than 6, and otherwise the fault of the fields
pub wrong_count : (points : ℕ) (fields levels : List ℕ) → (length fields ≡ field_count → ⊥)
    → numbers_fault points fields levels ≡ 9
unfolding numbers_fault
wrong_count points fields levels h = rw (ne_eqb (length fields) field_count h) refl

right_count : (points : ℕ) (fields levels : List ℕ) → length fields ≡ field_count
    → numbers_fault points fields levels ≡ write_fault points (fields_from fields) levels
unfolding numbers_fault
right_count points fields levels h = rw (eq-eqb (length fields) field_count h) refl

-- a row as numbers in lent room: its text, and its size
abbrev WritesRow : (why : ℕ) (f : Fields) (levels text size : List ℕ) (r : ℕ) (text' size' : List ℕ)
    → Type 0
WritesRow why f levels text size r text' size' =
    WritesTwo why (show_row f levels) (length (show_row f levels) ∷ []) text size r text' size'

-- so what is shown of the fields is shown of their numbers
pub of_numbers : (points : ℕ) (fields levels : List ℕ) {f : Fields} {text text' size size' : List ℕ} {r : ℕ}
    → length fields ≡ field_count → f ≡ fields_from fields
    → WritesRow (write_fault points f levels) f levels text size r text' size'
    → WritesRow (numbers_fault points fields levels) (fields_from fields) levels text size r text' size'
of_numbers points fields levels h e w = rw (right_count points fields levels h) (rw e at w)

-- the library's refusal is the fault, and then the room for the text
write_then : (points : ℕ) (f : Fields) (levels : List ℕ) (room : ℕ)
    → write_refusal points f levels room ≡ then_room (write_fault points f levels)
    (leb (length (show_row f levels)) room)
unfolding write_refusal
write_then points f levels room = refl

module _ (points : ℕ) (f : Fields) (levels text : List ℕ) {answer : Result ℕ Refusal} {text' : List ℕ}
    (written : RowWritten points f levels text answer text') where
  -- what was answered
  refusal_of_rule : {why : Refusal} → answer ≡ Err why
      → (number_of why ≡ write_refusal points f levels (length text)) × (number_of why ≡ 0 → ⊥)
  refusal_of_rule {why} e = (rw e at written.number, λ z. let low = numbered why in omega (arith, low, z))

  fine_of : {k : ℕ} → answer ≡ Ok k → 0 ≡ write_refusal points f levels (length text)
  fine_of e = rw e at written.number

  -- where there is no room for the size
  pub write_faulty : {why : Refusal} → answer ≡ Err why
      → number_of why ≡ then_room (write_fault points f levels) false
  write_faulty {why} e =
      let w = refusal_of_rule e in
      let enough = leb (length (show_row f levels)) (length text) in
      short_of_lem (write_fault points f levels) (number_of why) enough (w.0 ∙ write_then points f levels (length text)) w.1

  pub write_fine : {k : ℕ} → answer ≡ Ok k → 14 ≡ then_room (write_fault points f levels) false
  write_fine e =
      let enough = leb (length (show_row f levels)) (length text) in
      fine_but_short (write_fault points f levels) enough (fine_of e ∙ write_then points f levels (length text))

  -- where there is
  module _ (size : List ℕ) (h : 1 ≤ length size) where
    both : then_room (write_fault points f levels)
        (fits_in (show_row f levels) text && fits_in (length (show_row f levels) ∷ []) size)
        ≡ write_refusal points f levels (length text)
    both =
        let enough = leb (length (show_row f levels)) (length text) in
        rw (le-leb 1 (length size) h)
        (ap (then_room (write_fault points f levels)) (and-true enough)
        ∙ sym (write_then points f levels (length text)))

    pub write_refused : {why : Refusal} {k : ℕ} → answer ≡ Err why → k ≡ number_of why
        → WritesRow (write_fault points f levels) f levels text size k text' size
    write_refused {why} e is =
        let w = refusal_of_rule e in
        let same : text' ≡ text = rw (sym w.0, ne_eqb (number_of why) 0 w.1) at written.bytes in
        rw (same, is) (refuse_two (both ∙ sym w.0) w.1)

    pub write_done : {k : ℕ} → answer ≡ Ok k
        → WritesRow (write_fault points f levels) f levels text size 0 text' (set size 0 k)
    write_done {k} e =
        let none = sym (fine_of e) in
        let long : k ∷ [] ≡ length (show_row f levels) ∷ [] = rw (e, none) at written.values in
        let put_in = rw none at written.bytes in
        write_two (both ∙ none) put_in
        (front-sets (k ∷ []) size (omega arith) ∙ ap (λ t. front t size) long)
