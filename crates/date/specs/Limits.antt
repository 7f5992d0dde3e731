-- The years whose dates exist, in one place. Assumes nothing.
use Rattle.std.specs.Prelude.{ℕ}

abbrev pub min_year : ℕ
min_year = 1900

abbrev pub max_year : ℕ
max_year = 9999
