-- A register row read: RULES, "Files and the report program". Assumes nothing.
use Rattle.std.specs.Prelude.{◌≡◌, ℕ, ◌+◌, Bool, cond, ◌&&◌, List, [], ◌∷◌, length, take, replicate, ◌==◌, nat_le}
use Rattle.std.specs.Prelude.{slice_index}
use Rattle.refusal.specs.Refuse.{refuse}
use Rattle.std.specs.Prelude.{Result, Ok, Err}
use Rattle.refusal.specs.Refusal.{number_of, told}
use Rattle.refusal.specs.Range.{all_within}
use Rattle.movement.specs.Limits.{max_points, max_level}
use Rattle.movement.specs.Rules.{fields_fit, identity_fits}
use Rattle.text.specs.Line.{bare_line}
use Rattle.text.specs.Index.{listing}
use Rattle.room.specs.Room.{then_room, leaves}
use Rattle.register.specs.Column.{identity_column, type_column, mass_column, kind_column, time_column, level_columns}
use Rattle.register.specs.Cell.{Cells, cells_of}
use Rattle.register.specs.declared.cell.Table.TheVariants.{Register}
use Rattle.register.specs.declared.row.Fields.{Fields}
use Rattle.register.specs.declared.row.Row.{Row}
use Rattle.refusal.specs.declared.Refusal.{Refusal}

-- a number of points that has a layout
abbrev pub points_fit : ℕ → Bool
points_fit n = nat_le 1 n && nat_le n max_points

-- eight values from column k on
unfoldable pub eight_from : ℕ → List ℕ → List ℕ
eight_from k values = listing (λ i. slice_index values (k + i)) max_points

-- what a row's text reads as by its layout alone: refusal 0, its fields and its levels, zero past the points; or 16 and
-- zeros
pub record Layout : Type 0 where
  pub refusal : ℕ
  pub fields : Fields
  pub levels : List ℕ

-- a row off its layout, and one on it
abbrev pub off_layout : Layout
off_layout = record {
  refusal = 16;
  fields = record { identity = 0; ty = 0; mass = 0; kind = 0; time = 0; computed = 0 };
  levels = replicate max_points 0;
}

abbrev pub fields_of : List ℕ → ℕ → Fields
fields_of v computed = record {
  identity = slice_index v identity_column;
  ty = slice_index v type_column;
  mass = slice_index v mass_column;
  kind = slice_index v kind_column;
  time = slice_index v time_column;
  computed = computed;
}

unfoldable pub row_layout : List ℕ → ℕ → Layout
row_layout v computed = record { refusal = 0; fields = fields_of v computed; levels = eight_from level_columns v }

-- no level blank means computed and all blank not computed; some blank is off the layout
unfoldable pub cells_layout : ℕ → Cells → Layout
cells_layout n c =
    cond c.read
    (cond (c.blanks == 0) (row_layout c.values 1)
    (cond (c.blanks == n) (row_layout c.values 0) off_layout))
    off_layout

-- the layout alone: a row of n points, with its CRLF or without
unfoldable pub layout_of : ℕ → List ℕ → Layout
layout_of n s = cond (points_fit n) (cells_layout n (cells_of Register (level_columns + n) (bare_line s))) off_layout

-- the layout that a reading tells
abbrev pub layout_told : Result Row Refusal → Layout
layout_told (Ok row) = record { refusal = 0; fields = row.fields; levels = row.levels }
layout_told (Err why) = record off_layout { refusal = number_of why }

-- rules 1, 3 and 7 of a row's fields, in this order
unfoldable pub fault_of : Fields → Bool → ℕ
fault_of f levels_fit =
    refuse 1 (fields_fit f.ty f.kind f.time f.mass)
    (refuse 3 (identity_fits f.identity) (refuse 7 levels_fit 0))

-- the refusal of a row read into `room` levels: 16, 1, 3, 7, 14
unfoldable pub row_refusal : ℕ → Layout → ℕ → ℕ
row_refusal n l room =
    refuse 16 (l.refusal == 0) (then_room (fault_of l.fields (all_within max_level l.levels)) (nat_le n room))

-- the values of an answer
abbrev pub field_list : Fields → List ℕ
field_list f = f.identity ∷ f.ty ∷ f.mass ∷ f.kind ∷ f.time ∷ f.computed ∷ []

abbrev pub answer_values : Result Fields Refusal → List ℕ
answer_values (Ok f) = field_list f
answer_values (Err why) = []

-- a row read: what is answered, and what the lent levels then hold
pub record RowRead (n : ℕ) (line old : List ℕ) (answer : Result Fields Refusal) (new : List ℕ) : Type 0 where
  pub number : told answer ≡ row_refusal n (layout_of n line) (length old)
  pub values : answer_values answer
      ≡ cond (row_refusal n (layout_of n line) (length old) == 0) (field_list (layout_of n line).fields) []
  pub levels : new ≡ leaves (row_refusal n (layout_of n line) (length old)) (take n (layout_of n line).levels) old
