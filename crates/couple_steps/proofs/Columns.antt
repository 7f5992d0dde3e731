-- The columns of a table's rows, and of the flat list that holds them. Assumes nothing.
use Rattle.std.specs.Prelude.{ℕ, ◌+◌, ◌*◌, ◌<◌, ◌≤◌, length, get_or, drop}
use mathlib.Core.{Path.◌≡◌, Path.refl, Path.sym, Path.ap, Path.◌∙◌, Bool.true, List.List, List.[]}
use native.Mathlib.Omega.{arith}
use lib.ListN.{length-map, length-drop, get_or-map}
use lib.Seq.{length-take-le, get_or-take, get_or-drop, ext_get_or}
use borrow.Author.Tests.{le-leb, eq-eqb}
use Rattle.refusal.proofs.Ranges.{within_each}
use Rattle.text.proofs.Indices.{length_listing, listing_at}
use Rattle.date.specs.Calendar.{date_exists}
use Rattle.coupling_rules.specs.Limits.{max_flights}
use Rattle.coupling_rules.specs.Refusals.{shape_fits, values_fit, flights_fit, movements_fit}
use Rattle.coupling_rules.specs.Tables.{column_in, flights_in, movements_in}
use Rattle.coupling_rules.proofs.Refusing.{exist_each}
use Rattle.coupling.proofs.Answering.{same_flights, same_movements}
use Rattle.couple_steps.specs.Table.{Rows, column_of, flights_of, movements_of}
use Rattle.couple_steps.specs.InnerTable.{row_in, rows_in, Roomy}

pub column_long : (k : ℕ) (rows : Rows) → length (column_of k rows) ≡ length rows
column_long k rows = length-map rows (λ row. get_or row k 0)

pub column_at_lem : (k : ℕ) (rows : Rows) (i : ℕ) → get_or (column_of k rows) i 0 ≡ get_or (get_or rows i []) k 0
column_at_lem k rows i = get_or-map (λ row. get_or row k 0) rows i []

-- Of a flat list

-- a cell, as the rows have it
pub cell_in : (columns : ℕ) (flat : List ℕ) (n k i : ℕ) → k < columns → i < n
    → get_or (column_of k (rows_in columns flat n)) i 0 ≡ get_or flat (k * max_flights + i) 0
cell_in columns flat n k i few low =
    column_at_lem k (rows_in columns flat n) i
    ∙ ap (λ (row : List ℕ). get_or row k 0) (listing_at (row_in columns flat) n i [] low)
    ∙ listing_at (λ j. get_or flat (j * max_flights + i) 0) columns k 0 few

module _ {columns : ℕ} {flat : List ℕ} (room : Roomy columns flat) (n : ℕ) (few : n ≤ max_flights) where
  pub column_in_rule : (k : ℕ) → k < columns → column_in k n flat ≡ column_of k (rows_in columns flat n)
  column_in_rule k h =
      let left : length (column_in k n flat) ≡ n =
      length-take-le n (drop (k * max_flights) flat)
      (omega (arith, length-drop (k * max_flights) flat, room.room)) in
      let right : length (column_of k (rows_in columns flat n)) ≡ n =
      column_long k (rows_in columns flat n) ∙ length_listing (row_in columns flat) n in
      ext_get_or 0 (column_in k n flat) (column_of k (rows_in columns flat n)) (left ∙ sym right)
      (λ i l. let low : i < n = omega (arith, left) in
      get_or-take n (drop (k * max_flights) flat) i 0 low ∙ get_or-drop (k * max_flights) flat i 0
      ∙ sym (cell_in columns flat n k i h low))

  pub flights_in_rule : 8 ≤ columns → flights_in flat n ≡ flights_of (rows_in columns flat n)
  flights_in_rule h =
      same_flights (column_in_rule 1 (omega arith)) (column_in_rule 2 (omega arith)) (column_in_rule 3 (omega arith))
      (column_in_rule 4 (omega arith)) (column_in_rule 5 (omega arith)) (column_in_rule 6 (omega arith))
      (column_in_rule 7 (omega arith))

  pub movements_in_rule : 9 ≤ columns → movements_in flat n ≡ movements_of (rows_in columns flat n)
  movements_in_rule h = same_movements (flights_in_rule (omega arith)) (column_in_rule 8 (omega arith))

-- Rows that are in their range

pub record RowFits (row : List ℕ) : Type 0 where
  pub date : date_exists (get_or row 1 0) ≡ true
  pub time : get_or row 2 0 ≤ 86399
  pub class : get_or row 3 0 ≤ 1
  pub kind : get_or row 4 0 ≤ 1

module _ (rows : Rows) (few : length rows ≤ max_flights)
    (each : (i : ℕ) → i < length rows → RowFits (get_or rows i [])) where
  same : (k : ℕ) → length (column_of k rows) ≡ length (column_of 1 rows)
  same k = column_long k rows ∙ sym (column_long 1 rows)

  within : (k i : ℕ) → i < length (column_of k rows) → i < length rows
  within k i l = omega (arith, column_long k rows)

  shape_fits_rule : shape_fits (flights_of rows) ≡ true
  unfolding shape_fits
  shape_fits_rule =
      let n = length (column_of 1 rows) in
      rw (
        le-leb n max_flights (omega (arith, column_long 1 rows)),
        eq-eqb (length (column_of 2 rows)) n (same 2),
        eq-eqb (length (column_of 3 rows)) n (same 3),
        eq-eqb (length (column_of 4 rows)) n (same 4),
        eq-eqb (length (column_of 5 rows)) n (same 5),
        eq-eqb (length (column_of 6 rows)) n (same 6),
        eq-eqb (length (column_of 7 rows)) n (same 7),
      ) refl

  values_fit_rule : values_fit (flights_of rows) ≡ true
  unfolding values_fit
  values_fit_rule =
      rw (
        exist_each (column_of 1 rows) (λ i l. rw (column_at_lem 1 rows i) (each i (within 1 i l)).date),
        within_each 86399 (column_of 2 rows) (λ i l. rw (column_at_lem 2 rows i) (each i (within 2 i l)).time),
        within_each 1 (column_of 3 rows) (λ i l. rw (column_at_lem 3 rows i) (each i (within 3 i l)).class),
        within_each 1 (column_of 4 rows) (λ i l. rw (column_at_lem 4 rows i) (each i (within 4 i l)).kind),
      ) refl

  pub flights_fit_rule : flights_fit (flights_of rows) ≡ true
  unfolding flights_fit
  flights_fit_rule = rw (shape_fits_rule, values_fit_rule) refl

  pub movements_fit_rule : movements_fit (movements_of rows) ≡ true
  unfolding movements_fit
  movements_fit_rule = rw (flights_fit_rule, eq-eqb (length (column_of 8 rows)) (length (column_of 1 rows)) (same 8))
      refl
