-- The bounds of RULES, "Radar tracks", in one place. Assumes nothing.
use Rattle.std.specs.Prelude.{ℕ}

-- movements, and tracks
abbrev pub max_flights : ℕ
max_flights = 50000

-- the seconds that a track may be away from an aeroplane's movement, and from a helicopter's
abbrev pub aeroplane_window : ℕ
aeroplane_window = 300

abbrev pub helicopter_window : ℕ
helicopter_window = 600
