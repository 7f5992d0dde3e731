-- A row is read exactly if it is spelled so; and what follows of its values and its length. Assumes nothing.
use Rattle.std.specs.Prelude.{ℕ, zero, suc, ◌+◌, ◌-◌, ◌<◌, ◌≤◌, length, get_or, replicate}
use mathlib.Core.{Path.◌≡◌, Path.refl, Path.sym, Path.ap, Path.◌∙◌, List.List, Bool.true, Bool.false}
use mathlib.Core.{Bool.◌&&◌, Logic.◌⊎◌, Logic.inl, Logic.inr, Logic.⊎_elim}
use native.Mathlib.Omega.{arith}
use borrow.Author.Tests.{eq-eqb, eqb-true, ltb-true, ltb-false}
use lib.ListN.{get_or-append}
use lib.{Seq.ext_get_or, Dec.eqb, Dec.ltb}
use Rattle.refusal.proofs.Laws.{and_left, and_right}
use Rattle.date.specs.Calendar.{date_exists}
use Rattle.text.specs.{Line.bare_line, Field.count_of, Index.every, Index.listing, Number.is_got, Number.value_of}
use Rattle.std.specs.Prelude.{Some}
use Rattle.text.proofs.Digits.{either, got_value, whole_small}
use Rattle.text.proofs.Indices.{every_each, every_all, listing_at, length_listing}
use Rattle.text.proofs.{Exact.whole_exact, Shown.whole_back, Clocks.time_exact, Clocks.time_back}
use Rattle.text.proofs.Letters.{letter_exact, two_back}
use Rattle.flights.specs.Column.{has_layout}
use Rattle.flights.specs.Cell.{class_letters, kind_letters, cell_of, cell_at, got_at, value_at}
use Rattle.flights.specs.Row.{refused_flight, read_flight, judged_flight, values_of, row_of, flight_of}
use Rattle.flights.specs.Row.{Flight}
use Rattle.flights.specs.{Spelled.column, Spelled.Spells, Exact.RowExactly}
use Rattle.flights.proofs.Dates.{date_exact, date_back, date_digits}
use Rattle.flights.proofs.Names.{name_named, named_name}
use Rattle.flights.proofs.Circuits.{circuit_spelled, spelled_circuit}

-- a row on its layout: how many fields it has, and that each was read
pub record Laid (columns : ℕ) (s : List ℕ) : Type 0 where
  pub layout : (columns ≡ 8) ⊎ (columns ≡ 9)
  pub count : count_of 44 s + 1 ≡ columns
  pub got : every (got_at s) columns ≡ true

-- 8 columns, or 9
pub layout_of : (columns : ℕ) → has_layout columns ≡ true → (columns ≡ 8) ⊎ (columns ≡ 9)
layout_of columns e =
    either (eqb columns 8)
    (λ yes. inl (eqb-true columns 8 yes))
    (λ no. let q : eqb columns 9 ≡ true = rw no at e in inr (eqb-true columns 9 q))

of_layout : (columns : ℕ) → (columns ≡ 8) ⊎ (columns ≡ 9) → has_layout columns ≡ true
of_layout columns l = ⊎_elim (λ e. rw e refl) (λ e. rw e refl) l

-- a row is off its layout, or on it and then judged by its date
pub row_laid : (columns : ℕ) (row : List ℕ)
    → (flight_of columns row ≡ refused_flight 16)
    ⊎ (Laid columns (bare_line row) × (flight_of columns row ≡ judged_flight (values_of columns (bare_line row))))
unfolding flight_of row_of
row_laid columns row =
    let s = bare_line row in
    let a = eqb (count_of 44 s + 1) columns in
    let b = every (got_at s) columns in
    either (has_layout columns)
    (λ fit. either (a && b)
    (λ fine. inr (
      record {
        layout = layout_of columns fit;
        count = eqb-true (count_of 44 s + 1) columns (and_left a b fine);
        got = and_right a b fine;
      },
      rw (fit, fine),
    ))
    (λ bad. inl (rw (fit, bad))))
    (λ none. inl (rw none))

laid_read : (columns : ℕ) (row : List ℕ) → Laid columns (bare_line row)
    → flight_of columns row ≡ judged_flight (values_of columns (bare_line row))
unfolding flight_of row_of
laid_read columns row l =
    rw (of_layout columns l.layout, eq-eqb (count_of 44 (bare_line row) + 1) columns l.count, l.got)

-- the values of a row, column by column
module _ (columns : ℕ) (s : List ℕ) (layout : (columns ≡ 8) ⊎ (columns ≡ 9)) where
  pub least : 8 ≤ columns
  least = ⊎_elim (λ e. omega arith) (λ e. omega arith) layout

  pub values_length : length (values_of columns s) ≡ 9
  unfolding listing
  values_length = ⊎_elim (λ e. rw e refl) (λ e. rw e refl) layout

  pub value_at_rule : (k : ℕ) → k < columns → get_or (values_of columns s) k 0 ≡ value_at s k
  value_at_rule k h =
      get_or-append (listing (value_at s) columns) (replicate (9 - columns) 0) 0 k
      (rw (length_listing (value_at s) columns) h)
      ∙ listing_at (value_at s) columns k 0 h

  track_zero : columns ≡ 8 → get_or (values_of columns s) 8 0 ≡ 0
  unfolding listing
  track_zero e = rw e refl

-- a row on its layout spells its values
module _ (columns : ℕ) (row : List ℕ) (l : Laid columns (bare_line row)) where
  read_at : (k : ℕ) → k < columns
      → cell_at (bare_line row) k ≡ Some (get_or (values_of columns (bare_line row)) k 0)
  read_at k h =
      got_value (cell_at (bare_line row) k) (every_each (got_at (bare_line row)) k columns h l.got)
      ∙ ap Some (sym (value_at_rule columns (bare_line row) l.layout k h))

  pub laid_spells : Spells columns row (values_of columns (bare_line row))
  unfolding cell_of
  laid_spells =
      let some = least columns (bare_line row) l.layout in
      let v = values_of columns (bare_line row) in
      let number = read_at 0 (omega arith) in
      let date = date_exact (column row 1) (get_or v 1 0) (read_at 1 (omega arith)) in
      let time = time_exact (column row 2) (get_or v 2 0) (read_at 2 (omega arith)) in
      let class = letter_exact class_letters (column row 3) (get_or v 3 0) (read_at 3 (omega arith)) in
      let kind = letter_exact kind_letters (column row 4) (get_or v 4 0) (read_at 4 (omega arith)) in
      record {
        layout = l.layout;
        commas = l.count;
        each = values_length columns (bare_line row) l.layout;
        number = whole_exact (column row 0) (get_or v 0 0) number;
        number< = whole_small (column row 0) (get_or v 0 0) number;
        date = date.0 ∙ date_digits (get_or v 1 0) date.1;
        date< = date.1;
        time = time.0;
        time< = time.1;
        class = class.0;
        class< = class.1;
        kind = kind.0;
        kind< = kind.1;
        runway = name_named (column row 5) (get_or v 5 0) (read_at 5 (omega arith));
        airport = name_named (column row 6) (get_or v 6 0) (read_at 6 (omega arith));
        type = name_named (column row 7) (get_or v 7 0) (read_at 7 (omega arith));
        circuit = λ e. circuit_spelled (column row 8) (get_or v 8 0) (read_at 8 (omega arith));
        track = track_zero columns (bare_line row) l.layout;
      }

-- and a row that spells values is on its layout and has just these
module _ (columns : ℕ) (row values : List ℕ) (w : Spells columns row values) where
  last : 8 < columns → columns ≡ 9
  last h = ⊎_elim (λ e. absurd (omega arith)) (λ e. e) w.layout

  most : columns ≤ 9
  most = ⊎_elim (λ e. omega arith) (λ e. omega arith) w.layout

  cell : (k : ℕ) → k < columns → cell_at (bare_line row) k ≡ Some (get_or values k 0)
  unfolding cell_of
  cell zero h = rw w.number (whole_back (get_or values 0 0) w.number<)
  cell (suc zero) h =
      rw (w.date ∙ sym (date_digits (get_or values 1 0) w.date<)) (date_back (get_or values 1 0) w.date<)
  cell (suc (suc zero)) h = rw w.time (time_back (get_or values 2 0) w.time<)
  cell (suc (suc (suc zero))) h =
      rw w.class (two_back _ _ (λ e. absurd (omega arith)) (get_or values 3 0) w.class<)
  cell (suc (suc (suc (suc zero)))) h =
      rw w.kind (two_back _ _ (λ e. absurd (omega arith)) (get_or values 4 0) w.kind<)
  cell (suc (suc (suc (suc (suc zero))))) h = named_name (column row 5) (get_or values 5 0) w.runway
  cell (suc (suc (suc (suc (suc (suc zero)))))) h = named_name (column row 6) (get_or values 6 0) w.airport
  cell (suc (suc (suc (suc (suc (suc (suc zero))))))) h = named_name (column row 7) (get_or values 7 0) w.type
  cell (suc (suc (suc (suc (suc (suc (suc (suc zero)))))))) h =
      spelled_circuit (column row 8) (get_or values 8 0) (w.circuit (last (omega arith)))
  cell (suc (suc (suc (suc (suc (suc (suc (suc (suc k))))))))) h = absurd (omega (arith, most))

  spells_laid : Laid columns (bare_line row)
  spells_laid = record {
    layout = w.layout;
    count = w.commas;
    got = every_all (got_at (bare_line row)) columns (λ k h. ap is_got (cell k h));
  }

  same_at : (k : ℕ) → k < 9 → get_or (values_of columns (bare_line row)) k 0 ≡ get_or values k 0
  same_at k h =
      either (ltb k columns)
      (λ yes. let less = ltb-true k columns yes in
      value_at_rule columns (bare_line row) w.layout k less ∙ ap value_of (cell k less))
      (λ no. let eight = least columns (bare_line row) w.layout in
      let e : k ≡ 8 = omega (arith, ltb-false k columns no) in
      let f : columns ≡ 8 = omega (arith, ltb-false k columns no) in
      rw e (track_zero columns (bare_line row) w.layout f ∙ sym (w.track f)))

  same_values_rule : values_of columns (bare_line row) ≡ values
  same_values_rule =
      let long = values_length columns (bare_line row) w.layout in
      ext_get_or 0 (values_of columns (bare_line row)) values (long ∙ sym w.each)
      (λ k h. same_at k (omega (arith, long)))

  pub spelled_read : flight_of columns row ≡ judged_flight values
  spelled_read = laid_read columns row spells_laid ∙ ap judged_flight same_values_rule

-- what a row on its layout is, by its date
judged_yes : (values : List ℕ) → date_exists (get_or values 1 0) ≡ true → judged_flight values ≡ read_flight values
unfolding judged_flight
judged_yes values e = rw e

judged_no : (values : List ℕ) → date_exists (get_or values 1 0) ≡ false → judged_flight values ≡ refused_flight 18
unfolding judged_flight
judged_no values e = rw e

-- a row that is read is on its layout, and its date exists
pub record Read (columns : ℕ) (row : List ℕ) : Type 0 where
  pub values : (flight_of columns row).values ≡ values_of columns (bare_line row)
  pub laid : Laid columns (bare_line row)
  pub spelled : Spells columns row (flight_of columns row).values
  pub exists : date_exists (get_or (flight_of columns row).values 1 0) ≡ true

pub flight_read : (columns : ℕ) (row : List ℕ) → (flight_of columns row).refusal ≡ 0 → Read columns row
flight_read columns row e =
    ⊎_elim
    (λ off. let z : ◌≡◌ {A = ℕ} 16 0 = ap (λ (f : Flight). f.refusal) (sym off) ∙ e in absurd (omega arith))
    (λ on. let v = values_of columns (bare_line row) in
    either (date_exists (get_or v 1 0))
    (λ yes. let same : (flight_of columns row).values ≡ v =
    ap (λ (f : Flight). f.values) (on.1 ∙ judged_yes v yes) in
    record {
      values = same;
      laid = on.0;
      spelled = rw same (laid_spells columns row on.0);
      exists = rw same yes;
    })
    (λ no. let z : ◌≡◌ {A = ℕ} 18 0 = ap (λ (f : Flight). f.refusal) (sym (on.1 ∙ judged_no v no)) ∙ e in
    absurd (omega arith)))
    (row_laid columns row)

pub row_exactly : (columns : ℕ) (row : List ℕ) → RowExactly columns row
row_exactly columns row =
    record {
      on = λ e. let r = flight_read columns row e in (r.spelled, r.exists);
      only = λ values w e. spelled_read columns row values w ∙ judged_yes values e;
      undated = λ values w e. spelled_read columns row values w ∙ judged_no values e;
      off = λ never. ⊎_elim (λ e. e)
          (λ on. absurd (never (values_of columns (bare_line row)) (laid_spells columns row on.0)))
          (row_laid columns row);
    }
