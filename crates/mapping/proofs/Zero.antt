-- The literal 0.0 is the whole number 0. Assumes nothing.
use Rattle.std.specs.Prelude.{◌≡◌}
use mathlib.Core.Path.{refl}
use lib.Ieee.{binary64, of_bits, of_int}
use Rattle.mapping.specs.Fractions.{whole}

pub zero_whole : of_bits binary64 0 ≡ whole 0
unfolding of_int of_bits
zero_whole = refl
