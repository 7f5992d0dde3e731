-- The order of refusals of a row read and of a row written: RULES, "Refusal numbers", each reason in its words.
-- Assumes nothing.
use Rattle.std.specs.Prelude.{ℕ, ◌≤◌, ◌<◌, ◌≡◌, List, length, get_or}
use Rattle.movement.specs.Ranges.{FieldsInRange, LevelsInRange}
use Rattle.book_rules.specs.Order.{Given}
use Rattle.register.specs.declared.row.Fields.{Fields}
use Rattle.register.specs.Row.{layout_of}
use Rattle.register.specs.Write.{show_row}

-- rules 1 and 3 of a row's fields
abbrev pub Ranged : Fields → Type 0
Ranged f = FieldsInRange f.ty f.kind f.time f.mass

abbrev pub Identified : Fields → Type 0
Identified f = (1 ≤ f.identity) × (f.identity ≤ 99999)

-- the answer r to a row of p points read into `room` levels: 16, 1, 3, 7, 14 (a row's fields alone are read without 2)
abbrev pub InReadOrder : (p : ℕ) (line : List ℕ) (room r : ℕ) → Type 0
InReadOrder p line room r =
    Given r 16 ((layout_of p line).refusal ≡ 0 → ⊥)
    (Given r 1 (Ranged (layout_of p line).fields → ⊥)
    (Given r 3 (Identified (layout_of p line).fields → ⊥)
    (Given r 7 (((i : ℕ) → get_or (layout_of p line).levels i 0 ≤ 12000) → ⊥)
    (Given r 14 (room < p)
    (r ≡ 0)))))

-- a level for each point, none over 12,000, and zeros where the row is not computed
pub record LevelsWritten (p : ℕ) (f : Fields) (levels : List ℕ) : Type 0 where
  pub range : LevelsInRange p levels
  pub zeros : f.computed ≡ 0 → (i : ℕ) → get_or levels i 0 ≡ 0

-- the answer r to a row written into `room` bytes: 9, 1, 3, 7, 14
abbrev pub InWriteOrder : (p : ℕ) (f : Fields) (levels : List ℕ) (room r : ℕ) → Type 0
InWriteOrder p f levels room r =
    Given r 9 ((1 ≤ p) × (p ≤ 8) × (f.computed ≤ 1) → ⊥)
    (Given r 1 (Ranged f → ⊥)
    (Given r 3 (Identified f → ⊥)
    (Given r 7 (LevelsWritten p f levels → ⊥)
    (Given r 14 (room < length (show_row f levels))
    (r ≡ 0)))))
