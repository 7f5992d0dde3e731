-- The report program's own book has 2,000 rows: RULES, "Files and the report program".
-- Assumes nothing.
use Rattle.std.specs.Prelude.{ℕ, ◌≤◌, ◌<◌, ◌≡◌, false, List, length}
use Rattle.movement.specs.Ranges.{FieldsInRange}
use Rattle.book_rules.specs.History.{standing}
use Rattle.register.specs.Row.{layout_of}
use Rattle.report_steps.specs.Reading.{line_refusal}
use Rattle.report_rules.specs.Flights.{rows_in, flights_in, book_in, standing_in}

-- a row without levels that nothing refuses but a full book: on its layout, rules 1 to 3 hold, and no flight of its
-- identity stands
pub record Fresh (p : ℕ) (register row : List ℕ) : Type 0 where
  pub read : (layout_of p row).refusal ≡ 0
  pub range : let f = (layout_of p row).fields in FieldsInRange f.ty f.kind f.time f.mass
  pub heavy : 150 < (layout_of p row).fields.mass
  pub identity : (1 ≤ (layout_of p row).fields.identity) × ((layout_of p row).fields.identity ≤ 99999)
  pub new : standing (layout_of p row).fields.identity (standing_in p register) ≡ false
  pub bare : (layout_of p row).fields.computed ≡ 0

-- a register of p points that is refused nowhere: it has at most 2,000 flights, and such a row more is refused 6 behind
-- 2,000 of them and accepted behind fewer
pub record TwoThousand (p : ℕ) (register : List ℕ) : Type 0 where
  pub most : length (flights_in p (rows_in register)) ≤ 2000
  pub full : (n : ℕ) (row : List ℕ) → (n ≡ 1 → ⊥) → Fresh p register row
      → length (flights_in p (rows_in register)) ≡ 2000
      → line_refusal p n (book_in p register) row ≡ 6
  pub room : (n : ℕ) (row : List ℕ) → (n ≡ 1 → ⊥) → Fresh p register row
      → length (flights_in p (rows_in register)) < 2000
      → line_refusal p n (book_in p register) row ≡ 0
