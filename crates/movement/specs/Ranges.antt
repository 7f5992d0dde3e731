-- Every range and edge of a movement, "exactly if", with the rules' own numbers: one off by one is stopped here.
-- Assumes nothing.
use Rattle.std.specs.Prelude.{◌≡◌, ℕ, ◌+◌, ◌*◌, ◌%◌, ◌<◌, ◌≤◌, true, ◌↔◌, List, length, slice_index}
use Rattle.movement.specs.Period.{period_of, period_number, weight_of}
use Rattle.movement.specs.Group.{group_of, group_period}
use Rattle.movement.specs.Rules.{fields_fit, counts, movement_refusal, identity_fits, levels_fit}
use Rattle.movement.specs.Rules.{counts_fit, zero_elsewhere}

-- type 0 to 2, kind 0 or 1, a second of the day, up to 1,000,000 kg, and no small movement of 6,000 kg or more
pub record FieldsInRange (type kind second mass : ℕ) : Type 0 where
  pub type<3 : type < 3
  pub kind<2 : kind < 2
  pub in_the_day : second < 86400
  pub mass_most : mass ≤ 1000000
  pub small_below_rule : type ≡ 1 → mass < 6000

-- as many levels as points, none over 12,000
pub record LevelsInRange (points : ℕ) (levels : List ℕ) : Type 0 where
  pub one_a_point_rule : length levels ≡ points
  pub level_most : (i : ℕ) → i < length levels → slice_index levels i ≤ 12000

-- as many numbers as points, each yes or no
pub record CountsInRange (points : ℕ) (counts : List ℕ) : Type 0 where
  pub one_a_point_rule : length counts ≡ points
  pub yes_or_no : (i : ℕ) → i < length counts → slice_index counts i ≤ 1

-- a level is zero wherever the movement doesn't count
abbrev pub ZeroElsewhere : (points : ℕ) (counts levels : List ℕ) → Type 0
ZeroElsewhere points cs ls = (j : ℕ) → j < points → slice_index cs j ≡ 0 → slice_index ls j ≡ 0

pub record RangesHold : Type 0 where
  -- rule 1
  pub fields : (type kind second mass : ℕ)
      → fields_fit type kind second mass ≡ true ↔ FieldsInRange type kind second mass
  -- rule 2: a movement is entered only if its mass is more than 150 kg
  pub counted : (mass : ℕ) → counts mass ≡ true ↔ 150 < mass
  -- rule 3
  pub identity : (x : ℕ) → identity_fits x ≡ true ↔ (1 ≤ x) × (x ≤ 99999)
  -- rule 7
  pub levels : (points : ℕ) (ls : List ℕ) → levels_fit points ls ≡ true ↔ LevelsInRange points ls
  -- yes or no for each point
  pub counts= : (points : ℕ) (cs : List ℕ) → counts_fit points cs ≡ true ↔ CountsInRange points cs
  -- rule 19, where there is one of each a point
  pub elsewhere : (points : ℕ) (cs ls : List ℕ) → length cs ≡ points → length ls ≡ points
      → zero_elsewhere cs ls ≡ true ↔ ZeroElsewhere points cs ls
  -- 1 exactly where rule 1 is broken, 2 exactly where rule 1 holds and the mass is 150 kg or less
  pub one : (type kind second mass : ℕ)
      → movement_refusal type kind second mass ≡ 1 ↔ ¬ FieldsInRange type kind second mass
  pub two : (type kind second mass : ℕ)
      → movement_refusal type kind second mass ≡ 2 ↔ FieldsInRange type kind second mass × (mass ≤ 150)
  pub accepted : (type kind second mass : ℕ)
      → movement_refusal type kind second mass ≡ 0 ↔ FieldsInRange type kind second mass × (150 < mass)

-- The period of a second, the group of a movement and the weight of a group
pub record PeriodsHold : Type 0 where
  -- day 0 from 07:00:00 to before 19:00:00, evening 1 to before 23:00:00, night 2 otherwise
  pub day : (s : ℕ) → period_number (period_of s) ≡ 0 ↔ (7 * 3600 ≤ s) × (s < 19 * 3600)
  pub evening : (s : ℕ) → period_number (period_of s) ≡ 1 ↔ (19 * 3600 ≤ s) × (s < 23 * 3600)
  pub night : (s : ℕ) → period_number (period_of s) ≡ 2 ↔ ¬ ((7 * 3600 ≤ s) × (s < 23 * 3600))
  -- group 6·type + 3·kind + period
  pub group : (type kind s : ℕ) → type < 3 → kind < 2
      → group_of type kind s ≡ 6 * type + 3 * kind + period_number (period_of s)
  -- a group's period, and its weight: 0, 500 and 1,000 hundredths
  pub period : (type kind s : ℕ) → group_period (group_of type kind s) ≡ period_of s
  pub weight : (g : ℕ) → weight_of (group_period g) ≡ 500 * (g % 3)
