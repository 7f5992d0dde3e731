-- The text of explain from bytes to bytes: refusals are the report's, and any other register is explained.
-- Assumes nothing.
use mathlib.Core.{Path.◌≡◌, Path.refl, Path.sym, Path.ap, Path.◌∙◌, List.List}
use Prim.Native.Nat.{ℕ}
use Rattle.book_rules.specs.History.{empty_book, booked}
use Rattle.register.specs.LimitsFile.{LimitsFile}
use Rattle.register.specs.LimitsFile.{limits_of}
use Rattle.report_steps.specs.Reading.{Reading}
use Rattle.report_steps.proofs.Bookings.{register_booked}
use Rattle.report_text.specs.Text.{book_text, book_refusal}
use Rattle.report_rules.specs.Report.{book_rows, Telling, reading_text, answer_of, report_of}
use Rattle.report_rules.specs.{Flights.book_in, WholeText.read_in}
use Rattle.report_rules.proofs.Answers.{reading_refused, reading_reported, register_text_lem, report_refused}
use Rattle.report_rules.proofs.{Answers.report_accepted, Flights.all_stand_lem}
use Rattle.explain_text.specs.Text.{explain_text}
use Rattle.explain_rules.specs.Says.{text_after, ExplainSays}
use Rattle.explain_rules.specs.Explain.{explain_of, calls_in, ExplainWhole}
use Rattle.explain_rules.proofs.Says.{refused_is, explain_text_lem}

module _ (limits register : List ℕ) (fine : (limits_of limits).refusal ≡ 0) where
  abbrev l : LimitsFile
  l = limits_of limits

  abbrev s : Reading
  s = read_in limits register

  -- the text that either program makes of the register's reading
  read : (tell : Telling) → answer_of tell limits register ≡ reading_text tell l s
  read tell = report_accepted tell limits register fine ∙ sym (register_text_lem tell l register s refl)

  as_report : (s.refusal ≡ 0 → ⊥) → explain_of limits register ≡ report_of limits register
  as_report ne =
      read explain_text ∙ reading_refused explain_text l s ne ∙ sym (read book_text ∙ reading_refused book_text l s ne)

  module _ (accepted : s.refusal ≡ 0) where
    book_explained : explain_of limits register ≡ explain_text l (book_in l.points register)
    book_explained = read explain_text ∙ reading_reported explain_text l s accepted

    made : book_in l.points register ≡ booked (empty_book l.points book_rows) (calls_in limits register)
    made = register_booked l.points (empty_book l.points book_rows) register

    text_is_rule : explain_of limits register ≡ text_after l book_rows (calls_in limits register)
    text_is_rule = book_explained ∙ ap (explain_text l) made

    book_refused : (book_refusal l (book_in l.points register) ≡ 0 → ⊥)
        → explain_of limits register ≡ report_of limits register
    book_refused ne =
        book_explained ∙ refused_is l (book_in l.points register) ne
        ∙ sym (read book_text ∙ reading_reported book_text l s accepted)

    book_says : book_refusal l (book_in l.points register) ≡ 0
        → ExplainSays l book_rows (calls_in limits register)
    book_says z = (explain_text_lem l book_rows (calls_in limits register)).says (ap (book_refusal l) (sym made) ∙ z)

pub explain_whole : (limits register : List ℕ) → ExplainWhole limits register
explain_whole limits register =
    record {
      by_limits = λ ne. report_refused explain_text limits register ne
          ∙ sym (report_refused book_text limits register ne);
      by_register = as_report limits register;
      by_book = book_refused limits register;
      text = text_is_rule limits register;
      says = book_says limits register;
      flights = all_stand_lem (limits_of limits).points register;
    }
