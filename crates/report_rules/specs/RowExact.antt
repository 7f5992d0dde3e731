-- A row is on its layout exactly if it is spelled so; any other is 16: RULES, "Files and the report program".
-- Assumes nothing.
use Rattle.std.specs.Prelude.{ℕ, ◌+◌, ◌/◌, ◌%◌, ◌≤◌, ◌<◌, ◌≡◌, List, [], ◌∷◌, ◌++◌, get_or}
use Rattle.text.specs.Line.{bare_line}
use Rattle.text.specs.Field.{count_of}
use Rattle.text.specs.Number.{show_whole, show_digits, show_level}
use Rattle.text.specs.Spelled.{bytes}
use Rattle.register.specs.declared.row.Fields.{Fields}
use Rattle.register.specs.Row.{layout_of}
use Rattle.report_rules.specs.Spelled.{column}

-- id,type,mtow,kind,time,l1 and on to p levels, and no field more: a row that spells these fields and levels.
-- Whole numbers have up to seven digits and levels up to 999.99; what is out of its range is spelled all the same
pub record Spells (p : ℕ) (row : List ℕ) (f : Fields) (levels : List ℕ) : Type 0 where
  pub points : (1 ≤ p) × (p ≤ 8)
  pub commas : count_of 44 (bare_line row) ≡ 4 + p
  pub identity : column row 0 ≡ show_whole f.identity
  pub identity< : f.identity < 10000000
  pub type : column row 1 ≡ get_or (bytes "GKH") f.ty 0 ∷ []
  pub type< : f.ty < 3
  pub mass : column row 2 ≡ show_whole f.mass
  pub mass< : f.mass < 10000000
  pub kind : column row 3 ≡ get_or (bytes "SL") f.kind 0 ∷ []
  pub kind< : f.kind < 2
  pub time : column row 4
      ≡ show_digits 2 (f.time / 3600) ++ (58 ∷ show_digits 2 (f.time / 60 % 60))
      ++ (58 ∷ show_digits 2 (f.time % 60))
  pub time< : f.time < 86400
  -- levels for all points, or all blank
  pub mark : f.computed ≤ 1
  pub given : f.computed ≡ 1 → (i : ℕ) → i < p → column row (5 + i) ≡ show_level (get_or levels i 0)
  pub given< : f.computed ≡ 1 → (i : ℕ) → i < p → get_or levels i 0 < 100000
  pub blank : f.computed ≡ 0 → (i : ℕ) → i < p → column row (5 + i) ≡ []

pub record RowExactly (p : ℕ) (row : List ℕ) : Type 0 where
  -- a row that is read spells what is read of it
  pub on : (layout_of p row).refusal ≡ 0 → Spells p row (layout_of p row).fields (layout_of p row).levels
  -- one that spells any fields and levels is read
  pub only : (f : Fields) (levels : List ℕ) → Spells p row f levels → (layout_of p row).refusal ≡ 0
  -- and one that spells none is refused 16
  pub off : ((f : Fields) (levels : List ℕ) → Spells p row f levels → ⊥) → (layout_of p row).refusal ≡ 16
