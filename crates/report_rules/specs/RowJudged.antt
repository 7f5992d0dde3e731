-- What a row of a register gets on a book, by the fields that it spells and by look-up: RULES, "Files and the report
-- program", each reason in the rules' words. Assumes nothing.
use Rattle.std.specs.Prelude.{ℕ, ◌≤◌, ◌<◌, ◌≡◌, List, get_or}
use Rattle.book_rules.specs.Columns.{Book}
use Rattle.book_rules.specs.Lookup.{found}
use Rattle.book_rules.specs.Lookup.Row.{nowhere}
use Rattle.book_rules.specs.Reasons.{Fields, NoIdentity, Full}
use Rattle.book_rules.specs.Order.{Given}
use Rattle.register.specs.Row.{Layout}
use Rattle.register.specs.Row.{layout_of}

-- a row with levels, not all of them up to 120.00
pub record LevelOver (p : ℕ) (row : Layout) : Type 0 where
  pub with_levels_rule : row.fields.computed ≡ 1
  pub over : ((i : ℕ) → i < p → get_or row.levels i 0 ≤ 12000) → ⊥

-- the answer r to a row on a sound book: 16, 1, then 0 where it is passed over, and 3, 4, 6, 7
abbrev pub InRowOrder : (p : ℕ) (b : Book) (row : List ℕ) (r : ℕ) → Type 0
InRowOrder p b row r =
    let f = (layout_of p row).fields in
    Given r 16 ((layout_of p row).refusal ≡ 0 → ⊥)
    (Given r 1 (Fields f.ty f.kind f.time f.mass → ⊥)
    (Given r 0 (f.mass ≤ 150)
    (Given r 3 (NoIdentity f.identity)
    (Given r 4 (found f.identity p b ≡ nowhere → ⊥)
    (Given r 6 (Full b)
    (Given r 7 (LevelOver p (layout_of p row))
    (r ≡ 0)))))))
