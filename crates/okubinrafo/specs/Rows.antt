-- Register rows as numbers: RULES, "Files and the report program". Assumes nothing.
use Rattle.std.specs.Prelude.{ℕ, List, length, get_or, eqb}
use Rattle.refusal.specs.Refuse.{refuse}
use Rattle.refusal.specs.Range.{all_within}
use Rattle.movement.specs.Limits.{max_level}
use Rattle.register.specs.declared.row.Fields.{Fields}
use Rattle.register.specs.Row.{Layout}
use Rattle.register.specs.Row.{fault_of}
use Rattle.register.specs.Write.{write_fault}

abbrev pub field_count : ℕ
field_count = 6

-- the fields of six numbers: identity, type, mass, kind, time, 1 if computed
abbrev pub fields_from : List ℕ → Fields
fields_from ns =
    record {
      identity = get_or ns 0 0;
      ty = get_or ns 1 0;
      mass = get_or ns 2 0;
      kind = get_or ns 3 0;
      time = get_or ns 4 0;
      computed = get_or ns 5 0;
    }

-- a row that was read: 16, 1, 3, 7
unfoldable pub row_fault : Layout → ℕ
row_fault l = refuse 16 (eqb l.refusal 0) (fault_of l.fields (all_within max_level l.levels))

-- a row to be written: 9 (also for a number of fields other than 6), 1, 3, 7
unfoldable pub numbers_fault : (points : ℕ) (fields levels : List ℕ) → ℕ
numbers_fault points fields levels =
    refuse 9 (eqb (length fields) field_count) (write_fault points (fields_from fields) levels)
