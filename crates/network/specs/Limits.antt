-- The ranges of a network, RULES, "Numbers and sizes", in one place. Assumes nothing.
use Rattle.std.specs.Prelude.{ℕ}

-- points a side
abbrev pub least_side : ℕ
least_side = 2

abbrev pub max_side : ℕ
max_side = 256

-- the edges of a network of 256 by 256 points
abbrev pub max_edges : ℕ
max_edges = 130560

-- spacing of the points in whole metres
abbrev pub least_spacing : ℕ
least_spacing = 1

abbrev pub max_spacing : ℕ
max_spacing = 500

-- the south-west point in whole metres, each way from 0
abbrev pub max_origin : ℕ
max_origin = 900000

-- a network's levels in thousandths, from 0
abbrev pub max_network_level : ℕ
max_network_level = 150000

-- a contour's level in thousandths
abbrev pub least_contour : ℕ
least_contour = 1

abbrev pub max_contour : ℕ
max_contour = 150000
