-- The values of a row that is read lie in their ranges, and every row has nine. Assumes nothing.
use Rattle.std.specs.Prelude.{ℕ, ◌<◌, ◌≤◌, length, get_or}
use mathlib.Core.{Path.◌≡◌, Path.ap, Path.◌∙◌, List.List, Bool.true, Logic.⊎_elim}
use native.Mathlib.Omega.{arith}
use Rattle.date.specs.Calendar.{date_exists}
use Rattle.text.specs.Line.{bare_line}
use Rattle.text.proofs.Digits.{either}
use Rattle.flights.specs.Row.{judged_flight, values_of, flight_of}
use Rattle.flights.specs.Row.{Flight}
use Rattle.flights.specs.{Spelled.column, Spelled.Circuit}
use Rattle.flights.specs.Spelled.Circuit.{blank, marked}
use Rattle.flights.proofs.Names.{named_name, name_below}
use Rattle.flights.proofs.Exact.{row_laid, values_length, flight_read}

-- columns in their order: number, date, time, class, kind, runway, airport, type, circuit
pub record InRange (values : List ℕ) : Type 0 where
  pub each : length values ≡ 9
  pub number : get_or values 0 0 ≤ 9999999
  pub date : date_exists (get_or values 1 0) ≡ true
  pub time : get_or values 2 0 ≤ 86399
  pub class : get_or values 3 0 ≤ 1
  pub kind : get_or values 4 0 ≤ 1
  pub runway : get_or values 5 0 < 4294967296
  pub airport : get_or values 6 0 < 4294967296
  pub type : get_or values 7 0 < 4294967296
  pub circuit : get_or values 8 0 ≤ 1

mark_most : {text : List ℕ} {mark : ℕ} → Circuit text mark → mark ≤ 1
mark_most (blank e z) = omega arith
mark_most (marked e z) = omega arith

pub flight_range : (columns : ℕ) (row : List ℕ) → (flight_of columns row).refusal ≡ 0
    → InRange (flight_of columns row).values
flight_range columns row e =
    let r = flight_read columns row e in
    let w = r.spelled in
    record {
      each = w.each;
      number = omega (arith, w.number<);
      date = r.exists;
      time = omega (arith, w.time<);
      class = omega (arith, w.class<);
      kind = omega (arith, w.kind<);
      runway = name_below (column row 5) _ (named_name (column row 5) _ w.runway);
      airport = name_below (column row 6) _ (named_name (column row 6) _ w.airport);
      type = name_below (column row 7) _ (named_name (column row 7) _ w.type);
      circuit = ⊎_elim (λ f. omega (arith, w.track f)) (λ f. mark_most (w.circuit f)) w.layout;
    }

-- a row has nine values, refused or not
judged_nine : (values : List ℕ) → length values ≡ 9 → length (judged_flight values).values ≡ 9
unfolding judged_flight
judged_nine values l = either (date_exists (get_or values 1 0)) (λ yes. rw yes l) (λ no. rw no)

pub flight_nine : (columns : ℕ) (row : List ℕ) → length (flight_of columns row).values ≡ 9
flight_nine columns row =
    ⊎_elim
    (λ off. ap (λ (f : Flight). length f.values) off)
    (λ on. ap (λ (f : Flight). length f.values) on.1 ∙ judged_nine (values_of columns (bare_line row))
    (values_length columns (bare_line row) on.0.layout))
    (row_laid columns row)
