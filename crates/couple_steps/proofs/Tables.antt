-- A table in one flat list: a row that is stored stands behind those before it. Assumes nothing.
use Rattle.std.specs.Prelude.{ℕ, ◌+◌, ◌*◌, ◌<◌, ◌≤◌}
use mathlib.Core.{Path.◌≡◌, Path.refl, Path.◌∙◌, List.List, List.[], List.◌∷◌, List.◌++◌}
use native.Mathlib.Omega.{arith}
use lib.{ListN.length, ListN.get_or, ListN.set, ListN.length-set, Seq.get_or-set_same, Seq.get_or-set_other, Dec.eqb}
use borrow.Author.Tests.{eqb-true, eqb-false}
use Rattle.text.specs.Index.{listing}
use Rattle.text.proofs.{Digits.either, Indices.listing_more, Indices.listing_same}
use Rattle.coupling_rules.specs.Limits.{max_flights}
use Rattle.couple_steps.specs.InnerTable.{row_in, rows_in, Roomy}

-- the numbers of a row stand in the columns before j, and the rows before it are as they were
pub record Storing (columns : ℕ) (old : List ℕ) (row : ℕ) (values : List ℕ) (j : ℕ) (flat : List ℕ) : Type 0 where
  pub few : j ≤ columns
  pub long : length flat ≡ length old
  pub new : (k : ℕ) → k < j → get_or flat (k * max_flights + row) 0 ≡ get_or values k 0
  pub kept : (k i : ℕ) → i < row → get_or flat (k * max_flights + i) 0 ≡ get_or old (k * max_flights + i) 0

pub storing_none : (columns : ℕ) (old : List ℕ) (row : ℕ) (values : List ℕ) → Storing columns old row values 0 old
storing_none columns old row values =
    record { few = omega arith; long = refl; new = λ k h. absurd (omega arith); kept = λ k i h. refl }

module _ {columns row j : ℕ} {old values flat : List ℕ} (s : Storing columns old row values j flat)
    (room : Roomy columns old) (low : row < max_flights) where
  pub cell_within : j < columns → j * max_flights + row < length flat
  cell_within h = omega (arith, s.long, room.room)

  pub storing_next : j < columns
      → Storing columns old row values (j + 1) (set flat (j * max_flights + row) (get_or values j 0))
  storing_next h =
      let at = j * max_flights + row in
      let v = get_or values j 0 in
      record {
        few = omega arith;
        long = length-set flat at v ∙ s.long;
        new = λ k l. either (eqb k j)
            (λ yes. rw (eqb-true k j yes) (get_or-set_same flat at v 0 (cell_within h)))
            (λ no. let ne = eqb-false k j no in
            let other : k * max_flights + row ≡ at → ⊥ = λ e. ne (omega (arith, e)) in
            get_or-set_other flat at (k * max_flights + row) v 0 other ∙ s.new k (omega (arith, ne)));
        kept = λ k i l.
            let other : k * max_flights + i ≡ at → ⊥ = λ e. absurd (omega (arith, e)) in
            get_or-set_other flat at (k * max_flights + i) v 0 other ∙ s.kept k i l;
      }

  pub storing_done : columns ≤ j
      → rows_in columns flat (row + 1) ≡ rows_in columns old row ++ (listing (λ k. get_or values k 0) columns ∷ [])
  storing_done h =
      let before : rows_in columns flat row ≡ rows_in columns old row =
      listing_same (row_in columns flat) (row_in columns old) row (λ i l.
      listing_same (λ k. get_or flat (k * max_flights + i) 0) (λ k. get_or old (k * max_flights + i) 0) columns
      (λ k m. s.kept k i l)) in
      let last : row_in columns flat row ≡ listing (λ k. get_or values k 0) columns =
      listing_same (λ k. get_or flat (k * max_flights + row) 0) (λ k. get_or values k 0) columns
      (λ k m. s.new k (omega (arith, s.few))) in
      listing_more (row_in columns flat) row ∙ rw (before, last) refl
