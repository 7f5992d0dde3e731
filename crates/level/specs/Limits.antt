-- How large the numbers of a load may be: for more movements than a book holds, so a larger book needs nothing new.
-- Assumes nothing.
use Rattle.std.specs.Prelude.{ℕ, ◌*◌, ◌/◌, ◌^◌}

-- the highest level, 12,000, with the weight of the night
abbrev pub max_weighted : ℕ
max_weighted = 13000

abbrev pub max_movements : ℕ
max_movements = 500000

-- the energy of one movement at the highest weighted level
abbrev pub max_energy : ℕ
max_energy = 10 ^ 13

abbrev pub max_total : ℕ
max_total = max_movements * max_energy

-- M of the largest total over one day
abbrev pub max_mean : ℕ
max_mean = 1000 * max_total / 86400
