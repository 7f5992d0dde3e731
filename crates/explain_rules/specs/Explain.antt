-- The whole text of explain, from bytes to bytes: RULES, "The program explain". The files are read as the report's.
-- Assumes nothing.
use Rattle.std.specs.Prelude.{ℕ, ◌≡◌, List}
use Rattle.book_rules.specs.History.{Made, empty_book}
use Rattle.register.specs.LimitsFile.{limits_of}
use Rattle.report_steps.specs.Booking.{register_calls}
use Rattle.report_text.specs.Text.{book_refusal}
use Rattle.report_rules.specs.Report.{book_rows, answer_of, report_of}
use Rattle.report_rules.specs.Flights.{book_in, AllStand}
use Rattle.report_rules.specs.WholeText.{read_in}
use Rattle.explain_text.specs.Text.{explain_text}
use Rattle.explain_rules.specs.Says.{text_after, ExplainSays}

-- the bytes of limits.csv and the bytes of the register give the bytes of the output
abbrev pub explain_of : (limits register : List ℕ) → List ℕ
explain_of limits register = answer_of explain_text limits register

-- the calls that a register makes
abbrev pub calls_in : (limits register : List ℕ) → List Made
calls_in limits register =
    register_calls (limits_of limits).points (empty_book (limits_of limits).points book_rows) register

-- What the report refuses, explain refuses with the same bytes; any other register is explained, flight by flight
pub record ExplainWhole (limits register : List ℕ) : Type 0 where
  pub by_limits : ((limits_of limits).refusal ≡ 0 → ⊥) → explain_of limits register ≡ report_of limits register
  pub by_register : (limits_of limits).refusal ≡ 0 → ((read_in limits register).refusal ≡ 0 → ⊥)
      → explain_of limits register ≡ report_of limits register
  pub by_book : (limits_of limits).refusal ≡ 0 → (read_in limits register).refusal ≡ 0
      → (book_refusal (limits_of limits) (book_in (limits_of limits).points register) ≡ 0 → ⊥)
      → explain_of limits register ≡ report_of limits register
  -- the text of the movements that its calls leave standing, which are its rows over 150 kg, each once
  pub text : (limits_of limits).refusal ≡ 0 → (read_in limits register).refusal ≡ 0
      → explain_of limits register ≡ text_after (limits_of limits) book_rows (calls_in limits register)
  pub says : (limits_of limits).refusal ≡ 0 → (read_in limits register).refusal ≡ 0
      → book_refusal (limits_of limits) (book_in (limits_of limits).points register) ≡ 0
      → ExplainSays (limits_of limits) book_rows (calls_in limits register)
  pub flights : (read_in limits register).refusal ≡ 0 → AllStand (limits_of limits).points register
