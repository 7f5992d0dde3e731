-- The report's book holds 2,000 flights, and one more is refused 6. Assumes nothing.
use mathlib.Core.{Path.◌≡◌, Path.refl, Path.ap, Path.◌∙◌, Bool.Bool, Bool.true, Bool.false, Bool.cond, List.List}
use Prim.Native.Nat.{ℕ, ◌≤◌}
use native.Mathlib.Omega.{arith}
use lib.{Dec.ltb, ListN.length}
use borrow.Author.Tests.{eq-eqb, le-leb, lt-ltb, le-ltb}
use Rattle.movement.specs.Limits.{max_points}
use Rattle.movement.proofs.Ranges.{ranges_hold}
use Rattle.book_rules.specs.{Columns.Book, Calls.refusal}
use Rattle.book_rules.specs.History.{Made, made, empty_book, sizes_fit}
use Rattle.book_rules.specs.History.{standing_refusal, list_refusal}
use Rattle.book_rules.proofs.History.{told_all, history_refusal}
use Rattle.register.specs.Row.{layout_of}
use Rattle.report_steps.specs.{Intake.entering, Reading.registered, Booking.register_calls}
use Rattle.report_steps.proofs.Bookings.{register_booked}
use Rattle.report_rules.specs.{Report.book_rows, Flights.book_in, Flights.standing_in}
use Rattle.report_rules.specs.FullBook.{Fresh, TwoThousand}
use Rattle.report_rules.proofs.{Entering.all_fit, Flights.all_stand_lem, Refusing.row_refused}

module _ (p : ℕ) (register : List ℕ) (some : 1 ≤ p) (few : p ≤ 8)
    (accepted : (registered p (empty_book p book_rows) register).refusal ≡ 0) where
  abbrev cs : List Made
  cs = register_calls p (empty_book p book_rows) register

  -- *enter* is refused by the list of flights
  listed : (row : List ℕ) → refusal p (book_in p register) (entering p (layout_of p row)) ≡ list_refusal p book_rows
      (standing_in p register) (made p (entering p (layout_of p row)))
  listed row =
      ap (λ (b : Book). refusal p b (entering p (layout_of p row)))
      (register_booked p (empty_book p book_rows) register)
      ∙ history_refusal p book_rows cs (made p (entering p (layout_of p row)))

  -- where nothing else refuses it, by whether there is room
  by_room : (row : List ℕ) → Fresh p register row → (b : Bool) → ltb (length (standing_in p register)) 2000 ≡ b
      → list_refusal p book_rows (standing_in p register) (made p (entering p (layout_of p row))) ≡ cond b 0 6
  unfolding list_refusal standing_refusal sizes_fit
  by_room row f b e =
      let x = (layout_of p row).fields in
      let moved = (ranges_hold.accepted x.ty x.kind x.time x.mass).1 (f.range, f.heavy) in
      let named = (ranges_hold.identity x.identity).1 f.identity in
      rw (eq-eqb p p refl, le-leb 1 p some, le-leb p max_points few, all_fit p, moved, named, f.new, e) refl

  pub two_thousand : TwoThousand p register
  two_thousand =
      let stand = (all_stand_lem p register accepted).count in
      let told = told_all p book_rows cs in
      record {
        most = omega (arith, stand, told.same);
        full = λ n row ne f two.
            let six = listed row ∙ by_room row f false
            (le-ltb (length (standing_in p register)) 2000 (omega (arith, stand))) in
            (row_refused p n (book_in p register) row ne).entered f.read (λ z. absurd (omega arith))
            (λ z. absurd (omega arith)) ∙ six;
        room = λ n row ne f less.
            let none = listed row ∙ by_room row f true
            (lt-ltb (length (standing_in p register)) 2000 (omega (arith, stand))) in
            (row_refused p n (book_in p register) row ne).blank f.read none f.bare;
      }
