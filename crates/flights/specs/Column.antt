-- The columns of a flight's row, by name: number,date,time,class,kind,runway,airport,type and, of a movement,
-- circuit. Assumes nothing.
use Rattle.std.specs.Prelude.{ℕ, Bool, ◌||◌, [], ◌∷◌, ◌==◌, slice_index_or}

-- where the date stands, counted from 0
abbrev pub date_column : ℕ
date_column = 1

-- how many columns a track has, and a movement
abbrev pub track_columns : ℕ
track_columns = 8

abbrev pub movement_columns : ℕ
movement_columns = 9

-- a number of columns that has a layout
abbrev pub has_layout : ℕ → Bool
has_layout columns = columns == track_columns || columns == movement_columns

-- one thing for each column
pub record Columns (A : Type 0) : Type 0 where
  pub number : A
  pub date : A
  pub time : A
  pub class : A
  pub kind : A
  pub runway : A
  pub airport : A
  pub ty : A
  pub circuit : A

-- that of column k
abbrev pub in_column : {A : Type 0} → Columns A → ℕ → A
in_column c k =
    slice_index_or (c.number ∷ c.date ∷ c.time ∷ c.class ∷ c.kind ∷ c.runway ∷ c.airport ∷ c.ty ∷ []) k
    c.circuit
