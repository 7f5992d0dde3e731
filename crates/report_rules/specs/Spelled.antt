-- How a row of a register spells its fields: RULES, "Files and the report program", column by column and letter by
-- letter. Assumes nothing.
use Rattle.std.specs.Prelude.{ℕ, ◌+◌, ◌/◌, ◌%◌, ◌≤◌, ◌<◌, ◌≡◌, List, [], ◌∷◌, ◌++◌, get_or}
use Prim.Native.Char.{code}
use Rattle.text.specs.Line.{bare_line}
use Rattle.text.specs.Field.{field_of}
use Rattle.text.specs.Number.{show_whole, show_digits, show_level}
use Rattle.text.specs.Spelled.{bytes}
use Rattle.register.specs.Row.{layout_of}

-- column k of a row, counted from 0, between its commas
abbrev pub column : List ℕ → ℕ → List ℕ
column row k = field_of (code ",") k (bare_line row)

-- id,type,mtow,kind,time,l1 and on: what a row of p points on its layout has in each column
pub record RowSpelled (p : ℕ) (row : List ℕ) : Type 0 where
  pub identity : column row 0 ≡ show_whole (layout_of p row).fields.identity
  -- types are G, K, H; kinds S, L
  pub type : column row 1 ≡ get_or (bytes "GKH") (layout_of p row).fields.ty 0 ∷ []
  pub types : (layout_of p row).fields.ty < 3
  pub mass : column row 2 ≡ show_whole (layout_of p row).fields.mass
  pub kind : column row 3 ≡ get_or (bytes "SL") (layout_of p row).fields.kind 0 ∷ []
  pub kinds : (layout_of p row).fields.kind < 2
  -- hours, minutes and seconds, two digits each
  pub time : let s = (layout_of p row).fields.time in
      column row 4
      ≡ show_digits 2 (s / 3600) ++ (code ":" ∷ show_digits 2 (s / 60 % 60)) ++ (code ":" ∷ show_digits 2 (s % 60))
  pub times : (layout_of p row).fields.time < 86400
  -- levels for all points, or all blank where it is not computed
  pub marks : (layout_of p row).fields.computed ≤ 1
  pub given : (layout_of p row).fields.computed ≡ 1 → (i : ℕ) → i < p
      → column row (5 + i) ≡ show_level (get_or (layout_of p row).levels i 0)
  pub blank : (layout_of p row).fields.computed ≡ 0 → (i : ℕ) → i < p → column row (5 + i) ≡ []
