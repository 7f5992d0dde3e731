-- A register row written: RULES, "Files and the report program". Assumes nothing.
use Rattle.std.specs.Prelude.{◌≡◌, ℕ, ◌+◌, Bool, true, cond, ◌&&◌, List, [], ◌∷◌, ◌++◌, length, ◌==◌, nat_le}
use Rattle.std.specs.Prelude.{slice_index}
use Rattle.refusal.specs.Refuse.{refuse}
use Rattle.std.specs.Prelude.{Result, Ok, Err}
use Rattle.refusal.specs.Refusal.{told}
use Rattle.refusal.specs.Range.{all_within}
use Rattle.movement.specs.Rules.{levels_fit}
use Rattle.text.specs.Field.{joined_by}
use Rattle.text.specs.Index.{listing}
use Rattle.text.specs.Spelled.{byte, crlf}
use Rattle.room.specs.Room.{then_room, leaves}
use Rattle.register.specs.Column.{level_columns}
use Rattle.register.specs.Cell.{cell_text}
use Rattle.register.specs.Row.{points_fit, fault_of}
use Rattle.register.specs.declared.row.Fields.{Fields}
use Rattle.refusal.specs.declared.Refusal.{Refusal}

-- the values of a row's columns
abbrev pub columns : Fields → List ℕ → List ℕ
columns f levels = f.identity ∷ f.ty ∷ f.mass ∷ f.kind ∷ f.time ∷ levels

-- the text of column k
abbrev pub text_at : Fields → List ℕ → ℕ → List ℕ
text_at f levels k = cell_text f.computed k (slice_index (columns f levels) k)

-- a row's line, and the row with its CRLF
unfoldable pub show_line : Fields → List ℕ → List ℕ
show_line f levels = joined_by (byte ",") (listing (text_at f levels) (level_columns + length levels))

abbrev pub show_row : Fields → List ℕ → List ℕ
show_row f levels = show_line f levels ++ crlf

-- rule 7 of a row to be written: where it is not computed each level is zero
abbrev pub zero_where_blank : ℕ → List ℕ → Bool
zero_where_blank mark levels = cond (mark == 0) (all_within 0 levels) true

unfoldable pub row_levels_fit : ℕ → ℕ → List ℕ → Bool
row_levels_fit n mark levels = levels_fit n levels && zero_where_blank mark levels

-- a row that can't be written: 9, 1, 3, 7
unfoldable pub write_fault : ℕ → Fields → List ℕ → ℕ
write_fault n f levels = refuse 9 (points_fit n && nat_le f.computed 1)
    (fault_of f (row_levels_fit n f.computed levels))

-- and 14 where its text has no room
unfoldable pub write_refusal : (n : ℕ) (f : Fields) (levels : List ℕ) (room : ℕ) → ℕ
write_refusal n f levels room = then_room (write_fault n f levels) (nat_le (length (show_row f levels)) room)

-- the value of an answer
abbrev pub written_values : Result ℕ Refusal → List ℕ
written_values (Ok k) = k ∷ []
written_values (Err why) = []

-- a row written: what is answered, and what the lent buffer then holds
pub record RowWritten (n : ℕ) (f : Fields) (levels old : List ℕ) (answer : Result ℕ Refusal) (new : List ℕ)
    : Type 0 where
  pub number : told answer ≡ write_refusal n f levels (length old)
  pub values : written_values answer
      ≡ cond (write_refusal n f levels (length old) == 0) (length (show_row f levels) ∷ []) []
  pub bytes : new ≡ leaves (write_refusal n f levels (length old)) (show_row f levels) old
