-- No flight drops out: the movements that an accepted register leaves standing are its rows over 150 kg, each once.
-- Assumes nothing.
use mathlib.Core.{Path.◌≡◌, Path.refl, Path.sym, Path.ap, Path.◌∙◌, Bool.Bool, Bool.true}
use mathlib.Core.List.{List, [], ◌∷◌}
use Prim.Native.Nat.{ℕ, zero, suc, ◌+◌, ◌≤◌, ◌<◌}
use native.Mathlib.Omega.{arith}
use lib.{ListN.length, ListN.get_or, ListN.drop, Dec.eqb, Dec.ltb}
use borrow.Author.Tests.{eq-eqb, ne_eqb, eqb-true, eqb-false}
use Rattle.text.specs.Line.{lines_of}
use Rattle.text.proofs.Digits.{either}
use Rattle.book_rules.specs.Columns.{Book}
use Rattle.book_rules.specs.History.{Movement, empty_book, movements, list_of, accepted}
use Rattle.book_rules.proofs.History.{Told, told, told_empty}
use Rattle.register.specs.Row.{layout_of}
use Rattle.report_steps.specs.Intake.{taken_number, row_taken}
use Rattle.stream.specs.Reading.{opening, line_read, lines_read, closing, whole_read}
use Rattle.stream.proofs.Readings.{stuck}
use Rattle.report_steps.specs.Reading.{Reading, line_refusal, line_after, register_step}
use Rattle.report_steps.specs.{Reading.registered, Booking.row_calls, Booking.lines_calls, Booking.register_calls}
use Rattle.report_steps.proofs.Bookings.{row_booked, register_rows}
use Rattle.report_rules.specs.Report.{book_rows}
use Rattle.report_rules.specs.Flights.{rows_in, flights_in, how_many, standing_in, AllStand}
use Rattle.report_rules.proofs.{Listed.accepted_then, Rows.row_read, Rows.row_flights}

-- flights of rows, one after the other
flights_then : (test : Movement → Bool) (p : ℕ) (row : List ℕ) (rows : List (List ℕ))
    → how_many test (flights_in p (row ∷ rows)) ≡ how_many test (flights_in p (row ∷ [])) + how_many test
    (flights_in p rows)
unfolding flights_in how_many
flights_then test p row rows =
    either (ltb 150 (layout_of p row).fields.mass) (λ yes. rw yes (omega arith)) (λ no. rw no (omega arith))

-- a row that is read goes on: what is known behind it
pub record Past (p n : ℕ) (s : Reading) (line : List ℕ) (ls : List (List ℕ)) (ms : List Movement) : Type 0 where
  pub fine : taken_number (row_taken p s.held line) ≡ 0
  pub refusal : (line_read (register_step p) s line).refusal ≡ 0
  pub number : (line_read (register_step p) s line).line ≡ s.line + 1
  pub told= : Told p n (line_read (register_step p) s line).held
      (list_of ms (accepted p n ms (row_calls p s.held line)))

row-past : (p n : ℕ) (s : Reading) (line : List ℕ) (ls : List (List ℕ)) (ms : List Movement)
    → Told p n s.held ms
    → 2 ≤ s.line
    → (lines_read (register_step p) (line_read (register_step p) s line) ls).refusal ≡ 0 → Past p n s line ls ms
unfolding line_read line_refusal line_after
row-past p n s line ls ms t two z =
    let row = ne_eqb s.line 1 (λ e. absurd (omega arith)) in
    let r = (line_read (register_step p) s line).refusal in
    let none : r ≡ 0 = either (eqb r 0) (λ yes. eqb-true r 0 yes)
    (λ no. let ne = eqb-false r 0 no in
    absurd (ne (ap (λ (q : Reading). q.refusal)
    (sym (stuck (register_step p) (line_read (register_step p) s line) ls ne)) ∙ z))) in
    let fine : taken_number (row_taken p s.held line) ≡ 0 = rw row at none in
    record {
      fine = fine;
      refusal = none;
      number = rw (row, fine) refl;
      told= = rw (row, row_booked p s.held line) (told p n (row_calls p s.held line) s.held ms t);
    }

-- rows behind the header, up to the last: all are read, and the flights among them join the movements
pub record AllRead (p n : ℕ) (s : Reading) (ls : List (List ℕ)) (ms : List Movement) : Type 0 where
  pub read : (i : ℕ) → i < length ls → (layout_of p (get_or ls i [])).refusal ≡ 0
  pub each : (test : Movement → Bool)
      → how_many test (list_of ms (accepted p n ms (lines_calls p s ls))) ≡ how_many test ms + how_many test
      (flights_in p ls)

rows_read_lem : (p n : ℕ) (s : Reading) (ls : List (List ℕ)) (ms : List Movement) → Told p n s.held ms
    → 2 ≤ s.line
    → s.refusal ≡ 0
    → (lines_read (register_step p) s ls).refusal ≡ 0 → AllRead p n s ls ms
unfolding lines_read lines_calls flights_in how_many list_of accepted
rows_read_lem p n s [] ms t two z e = record { read = λ i h. absurd (omega arith); each = λ test. omega arith }
rows_read_lem p n s (l ∷ ls) ms t two z e =
    let go = eq-eqb s.refusal 0 z in
    let row = ne_eqb s.line 1 (λ q. absurd (omega arith)) in
    let k = row-past p n s l ls ms t two (rw go at e) in
    let ns = list_of ms (accepted p n ms (row_calls p s.held l)) in
    let rest = rows_read_lem p n (line_read (register_step p) s l) ls ns k.told= (omega (arith, k.number)) k.refusal
    (rw go at e) in
    record {
      read = each_read (row_read p s.held l k.fine) rest.read;
      each = λ test. rw (go, row)
          (ap (how_many test) (accepted_then p n ms (row_calls p s.held l)
          (lines_calls p (line_read (register_step p) s l) ls))
          ∙ rest.each test
          ∙ omega (arith, row_flights p n s.held ms l t k.fine test, flights_then test p l ls));
    }
  where
    each_read : (layout_of p l).refusal ≡ 0
        → ((i : ℕ) → i < length ls → (layout_of p (get_or ls i [])).refusal ≡ 0)
        → (i : ℕ) → i < suc (length ls) → (layout_of p (get_or (l ∷ ls) i [])).refusal ≡ 0
    each_read a b zero h = a
    each_read a b (suc i) h = b i (omega arith)

-- The whole register

-- as many as there are
many_all : (ms : List Movement) → how_many (λ m. true) ms ≡ length ms
unfolding how_many
many_all [] = refl
many_all (m ∷ ms) = omega (arith, many_all ms)

-- one that is refused nowhere has a header
headed : (p : ℕ) (b : Book) (register : List ℕ) → (registered p b register).refusal ≡ 0
    → (lines : List (List ℕ)) → lines_of register ≡ lines
    → ((lines_read (register_step p) (opening b) lines).refusal ≡ 0)
    × ((lines_read (register_step p) (opening b) lines).line ≡ 1 → ⊥)
unfolding whole_read closing
headed p b register z lines e =
    let s = lines_read (register_step p) (opening b) lines in
    let y : (closing s).refusal ≡ 0 = rw e at z in
    either (eqb s.refusal 0)
    (λ yes. either (eqb s.line 1)
    (λ one. absurd (omega (arith, rw (yes, one) at y)))
    (λ more. (eqb-true s.refusal 0 yes, eqb-false s.line 1 more)))
    (λ no. absurd (eqb-false s.refusal 0 no (rw no at y)))

-- the reading behind the header: nothing is in the book yet
pub record Begun (p : ℕ) (b : Book) (head : List ℕ) (rows : List (List ℕ)) : Type 0 where
  pub refusal : (line_read (register_step p) (opening b) head).refusal ≡ 0
  pub line : (line_read (register_step p) (opening b) head).line ≡ 2
  pub book : (line_read (register_step p) (opening b) head).held ≡ b
  pub rest : (lines_read (register_step p) (line_read (register_step p) (opening b) head) rows).refusal ≡ 0

begun : (p : ℕ) (b : Book) (head : List ℕ) (rows : List (List ℕ))
    → (lines_read (register_step p) (opening b) (head ∷ rows)).refusal ≡ 0 → Begun p b head rows
unfolding lines_read line_read line_after
begun p b head rows z =
    let s = line_read (register_step p) (opening b) head in
    let r = s.refusal in
    let none : r ≡ 0 = either (eqb r 0) (λ yes. eqb-true r 0 yes)
    (λ no. let ne = eqb-false r 0 no in
    absurd (ne (ap (λ (q : Reading). q.refusal) (sym (stuck (register_step p) s rows ne)) ∙ z))) in
    record { refusal = none; line = rw none refl; book = refl; rest = z }

calls_behind : (p : ℕ) (b : Book) (head : List ℕ) (rows : List (List ℕ))
    → lines_calls p (opening b) (head ∷ rows) ≡ lines_calls p (line_read (register_step p) (opening b) head) rows
unfolding lines_calls
calls_behind p b head rows = refl

from_none : (test : Movement → Bool) (fs : List Movement) → how_many test [] + how_many test fs ≡ how_many test fs
unfolding how_many
from_none test fs = omega arith

-- the movements standing are those of the rows' calls
standing_rows_lem : (p : ℕ) (register head : List ℕ) (rows : List (List ℕ)) → lines_of register ≡ head ∷ rows
    → standing_in p register
    ≡ list_of [] (accepted p book_rows []
    (lines_calls p (line_read (register_step p) (opening (empty_book p book_rows)) head) rows))
unfolding movements register_calls
standing_rows_lem p register head rows e = rw (e, calls_behind p (empty_book p book_rows) head rows) refl

-- a text with no line is not read
none_read : (p : ℕ) (b : Book) → (lines_read (register_step p) (opening b) []).line ≡ 1
unfolding lines_read
none_read p b = refl

pub all_stand_lem : (p : ℕ) (register : List ℕ) → (registered p (empty_book p book_rows) register).refusal ≡ 0
    → AllStand p register
all_stand_lem p register z = go (lines_of register) refl
  where
    b : Book
    b = empty_book p book_rows

    by_rows : (head : List ℕ) (rows : List (List ℕ)) → lines_of register ≡ head ∷ rows
        → AllRead p book_rows (line_read (register_step p) (opening b) head) rows []
    by_rows head rows e =
        let k = begun p b head rows (headed p b register z (head ∷ rows) e).0 in
        rows_read_lem p book_rows (line_read (register_step p) (opening b) head) rows []
        (rw k.book (told_empty p book_rows))
        (omega (arith, k.line)) k.refusal k.rest

    go : (lines : List (List ℕ)) → lines_of register ≡ lines → AllStand p register
    go [] e = absurd ((headed p b register z [] e).1 (none_read p b))
    go (head ∷ rows) e =
        let k = by_rows head rows e in
        let q : rows_in register ≡ rows = ap (drop 1) e in
        let each : (test : Movement → Bool)
        → how_many test (standing_in p register) ≡ how_many test (flights_in p (rows_in register)) =
        λ test. ap (how_many test) (standing_rows_lem p register head rows e) ∙ k.each test
        ∙ rw q (from_none test (flights_in p rows)) in
        record {
          read = rw q k.read;
          each = each;
          count = sym (many_all (standing_in p register)) ∙ each (λ m. true)
              ∙ many_all (flights_in p (rows_in register));
          book = register_rows p book_rows register;
        }
