-- A register's row counts at every point: RULES, "Files and the report program". Assumes nothing.
use Rattle.std.specs.Prelude.{ℕ, ◌<◌, ◌≡◌, List, [], length, get_or, replicate}
use Rattle.book_rules.specs.History.{movement, empty_book}
use Rattle.book_rules.specs.History.Held.{none}
use Rattle.load_rules.specs.Shares.{counting_at, Everywhere}
use Rattle.report_steps.specs.Reading.{registered}
use Rattle.report_rules.specs.{Report.book_rows, Flights.standing_in}

-- any register of p points, refused or not:
pub record AllCount (p : ℕ) (register : List ℕ) : Type 0 where
  -- each movement that it leaves standing has one yes a point and nothing else
  pub each : (i : ℕ) → i < length (standing_in p register)
      → (get_or (standing_in p register) i (movement 0 0 [] none)).counts ≡ replicate p 1
  -- it counts at every point
  pub everywhere : Everywhere p (standing_in p register)
  -- so the load of a point is that of all of them
  pub all : (pt : ℕ) → pt < p → counting_at pt (standing_in p register) ≡ standing_in p register
  -- and no row is refused for a level where it doesn't count
  pub never : (registered p (empty_book p book_rows) register).refusal ≡ 19 → ⊥
