-- The columns of a register's row, by name: id,type,mtow,kind,time and then a level for each point. Assumes nothing.
use Rattle.std.specs.Prelude.{ℕ, ◌+◌, [], ◌∷◌, slice_index_or}
use Rattle.movement.specs.Limits.{max_points}

-- where each stands, counted from 0
abbrev pub identity_column : ℕ
identity_column = 0

abbrev pub type_column : ℕ
type_column = 1

abbrev pub mass_column : ℕ
mass_column = 2

abbrev pub kind_column : ℕ
kind_column = 3

abbrev pub time_column : ℕ
time_column = 4

-- the levels stand from here on
abbrev pub level_columns : ℕ
level_columns = 5

abbrev pub max_columns : ℕ
max_columns = level_columns + max_points

-- one thing for each column, the same for all levels
pub record Columns (A : Type 0) : Type 0 where
  pub identity : A
  pub ty : A
  pub mass : A
  pub kind : A
  pub time : A
  pub level : A

-- that of column k
abbrev pub in_column : {A : Type 0} → Columns A → ℕ → A
in_column c k = slice_index_or (c.identity ∷ c.ty ∷ c.mass ∷ c.kind ∷ c.time ∷ []) k c.level
