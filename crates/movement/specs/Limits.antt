-- The ranges of RULES, "Numbers and sizes" and "Movements and the book", in one place.
-- Assumes nothing.
use Rattle.std.specs.Prelude.{ℕ}

-- rows of a book, and points
abbrev pub max_rows : ℕ
max_rows = 50000

abbrev pub max_points : ℕ
max_points = 8

abbrev pub max_identity : ℕ
max_identity = 99999

-- whether a movement counts at a point: 1 yes, 0 no
abbrev pub max_count : ℕ
max_count = 1

-- exposure levels and limits, in hundredths of a dB
abbrev pub max_level : ℕ
max_level = 12000

abbrev pub max_limit : ℕ
max_limit = 12000

abbrev pub max_days : ℕ
max_days = 366

-- take-off mass, in kg: a movement of up to 150 is not entered, and a small one is under 6,000
abbrev pub max_mass : ℕ
max_mass = 1000000

abbrev pub mass_not_counted : ℕ
mass_not_counted = 150

abbrev pub small_below : ℕ
small_below = 6000

abbrev pub seconds_a_day : ℕ
seconds_a_day = 86400

-- 3 types, 2 kinds and 3 periods
abbrev pub type_count : ℕ
type_count = 3

abbrev pub kind_count : ℕ
kind_count = 2

abbrev pub group_count : ℕ
group_count = 18
