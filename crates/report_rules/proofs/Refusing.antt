-- A report is refused with the number and the line that the rules give. Assumes nothing.
use mathlib.Core.{Path.◌≡◌, Path.refl, Path.sym, Path.ap, Path.◌∙◌, List.List}
use Prim.Native.Nat.{ℕ}
use native.Mathlib.Omega.{arith}
use lib.{Dec.eqb}
use borrow.Author.Tests.{eq-eqb, ne_eqb, eqb-true}
use Rattle.text.specs.Sheet.{refused_text}
use Rattle.std.specs.Prelude.{Option, Some, None}
use Rattle.text.proofs.{Digits.either, Sheets.refuses}
use Rattle.book_rules.specs.{Columns.Book, Calls.refusal, Calls.after, History.empty_book}
use Rattle.register.specs.{Header.register_header, LimitsFile.limits_of, Row.layout_of}
use Rattle.report_steps.specs.Intake.{taken_number, entering, supplying, supplied_taken, entered_taken, layout_taken}
use Rattle.report_steps.specs.Intake.{row_taken}
use Rattle.report_steps.specs.Reading.{points_refusal, line_refusal, header_points, register_step, registered}
use Rattle.stream.proofs.Firsts.{text_refused}
use Rattle.report_text.specs.Text.{book_refusal, book_text}
use Rattle.report_rules.specs.{Report.book_rows, Report.report_of, Flights.book_in}
use Rattle.report_rules.specs.Refused.{ReportRefused, RegisterRefused, HeaderExactly, RowRefused}
use Rattle.report_rules.proofs.Answers.{reading_refused, reading_reported, register_text_lem, report_refused}
use Rattle.report_rules.proofs.{Answers.report_accepted, Headers.header_is, Headers.is_header_lem}

-- the book is refused
book_refused : (limits register : List ℕ) → (limits_of limits).refusal ≡ 0
    → (registered (limits_of limits).points (empty_book (limits_of limits).points book_rows) register).refusal ≡ 0
    → (book_refusal (limits_of limits) (book_in (limits_of limits).points register) ≡ 0 → ⊥)
    → report_of limits register
    ≡ refused_text (book_refusal (limits_of limits) (book_in (limits_of limits).points register)) 0
unfolding book_text
book_refused limits register fine accepted ne =
    let l = limits_of limits in
    let s = registered l.points (empty_book l.points book_rows) register in
    report_accepted book_text limits register fine ∙ sym (register_text_lem book_text l register s refl)
    ∙ reading_reported book_text l s accepted
    ∙ rw (ne_eqb (book_refusal l s.held) 0 ne) refl

pub refused_report : (limits register : List ℕ) → ReportRefused limits register
refused_report limits register =
    let l = limits_of limits in
    let s = registered l.points (empty_book l.points book_rows) register in
    record {
      by_limits = λ ne. refuses (report_of limits register) l.refusal l.line
          (report_refused book_text limits register ne);
      by_register = λ fine ne. refuses (report_of limits register) s.refusal s.line
          (report_accepted book_text limits register fine ∙ sym (register_text_lem book_text l register s refl)
          ∙ reading_refused book_text l s ne);
      by_book = λ fine accepted ne. refuses (report_of limits register) (book_refusal l s.held) 0
          (book_refused limits register fine accepted ne);
    }

-- The first refusal of a register counts

pub register_refused : (p : ℕ) (b : Book) (register : List ℕ) → RegisterRefused p b register
register_refused p b register =
    let k = text_refused (register_step p) b register in record { empty = k.empty; first = k.first }

-- What refuses a line

points_none : (p : ℕ) (r : Option ℕ) → points_refusal p r ≡ 0 → r ≡ Some p
points_none p None z = absurd (omega arith)
points_none p (Some n) z =
    either (eqb n p) (λ yes. ap Some (eqb-true n p yes)) (λ no. absurd (omega (arith, rw no at z)))

points_other : (p : ℕ) (r : Option ℕ) → (points_refusal p r ≡ 0 → ⊥) → points_refusal p r ≡ 16
points_other p None ne = refl
points_other p (Some n) ne = either (eqb n p) (λ yes. absurd (ne (rw yes refl))) (λ no. rw no refl)

pub header_exactly : (p : ℕ) (b : Book) (line : List ℕ) → HeaderExactly p b line
unfolding line_refusal
header_exactly p b line =
    record {
      passes = (
        λ z. header_is register_header 22 line p (points_none p (header_points line) z),
        λ h. rw (is_header_lem register_header 22 line p refl h.0.0 h.0.1 h.1, eq-eqb p p refl) refl,
      );
      otherwise = points_other p (header_points line);
    }

pub supplied_number : (s : ℕ) → taken_number (supplied_taken s) ≡ s
supplied_number s = either (eqb s 0) (λ yes. rw yes (sym (eqb-true s 0 yes))) (λ no. rw no refl)

pub row_refused : (p n : ℕ) (b : Book) (row : List ℕ) → (n ≡ 1 → ⊥) → RowRefused p n b row
unfolding line_refusal row_taken layout_taken entered_taken
row_refused p n b row more =
    let l = layout_of p row in
    let r = refusal p b (entering p l) in
    let s = refusal p (after p b (entering p l)) (supplying p l) in
    let two = ne_eqb n 1 more in
    record {
      off = λ ne. rw (two, ne_eqb l.refusal 0 ne) refl;
      passed = λ z e. rw (two, eq-eqb l.refusal 0 z, eq-eqb r 2 e) refl;
      entered = λ z ne nt. rw (two, eq-eqb l.refusal 0 z, ne_eqb r 2 nt, ne_eqb r 0 ne) refl;
      blank = λ z e c. rw (two, eq-eqb l.refusal 0 z, e, eq-eqb l.fields.computed 0 c) refl;
      supplied = λ z e c. rw (two, eq-eqb l.refusal 0 z, e, ne_eqb l.fields.computed 0 c) (supplied_number s);
    }
