-- Rules 1, 2, 3, 7 and 19, and what is given of a movement point by point: RULES, "Refusal numbers".
-- Assumes nothing.
use Rattle.std.specs.Prelude.{ℕ, Bool, true, ◌&&◌, ◌||◌, List, [], ◌∷◌, length, ◌==◌, nat_le, nat_lt}
use Rattle.refusal.specs.Range.{all_within}
use Rattle.refusal.specs.Refuse.{refuse}
use Rattle.movement.specs.Limits.{type_count, kind_count, seconds_a_day, max_mass, mass_not_counted}
use Rattle.movement.specs.Limits.{max_identity, max_level, max_count}
use Rattle.movement.specs.Aircraft.{aircraft_numbered, mass_fits}

-- rule 1: type, kind, time and mass in their ranges, and no small movement of 6,000 kg or more
unfoldable pub fields_fit : (type kind second mass : ℕ) → Bool
fields_fit type kind second mass =
    ((nat_lt type type_count && nat_lt kind kind_count) && (nat_lt second seconds_a_day && nat_le mass max_mass))
    && mass_fits (aircraft_numbered type) mass

-- rule 2: a movement is entered only if its mass is more than 150 kg
unfoldable pub counts : (mass : ℕ) → Bool
counts mass = nat_lt mass_not_counted mass

-- the rule that refuses a movement, 1 before 2, or 0
unfoldable pub movement_refusal : (type kind second mass : ℕ) → ℕ
movement_refusal type kind second mass = refuse 1 (fields_fit type kind second mass) (refuse 2 (counts mass) 0)

-- rule 3: an identity from 1 to 99,999
unfoldable pub identity_fits : (identity : ℕ) → Bool
identity_fits identity = nat_le 1 identity && nat_le identity max_identity

-- rule 7: as many levels as points, none over 12,000
unfoldable pub levels_fit : (points : ℕ) (levels : List ℕ) → Bool
levels_fit points levels = length levels == points && all_within max_level levels

-- where a movement counts: as many numbers as points, each 1 for yes or 0 for no
unfoldable pub counts_fit : (points : ℕ) (counts : List ℕ) → Bool
counts_fit points cs = length cs == points && all_within max_count cs

-- rule 19: where a movement doesn't count, its level is zero
unfoldable pub zero_elsewhere : (counts levels : List ℕ) → Bool
zero_elsewhere [] ls = true
zero_elsewhere (c ∷ cs) [] = true
zero_elsewhere (c ∷ cs) (l ∷ ls) = (nat_lt 0 c || l == 0) && zero_elsewhere cs ls
