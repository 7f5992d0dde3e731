-- A load and a verdict as numbers: RULES, "Energy and load". Assumes nothing.
use Rattle.std.specs.Prelude.{ℕ, ◌+◌, List, [], ◌∷◌, ◌++◌, map, Ok, Err}
use Rattle.movement.specs.Limits.{group_count}
use Rattle.level.specs.declared.Level.{Level}
use Rattle.level.specs.Level.{level_given, level_value, verdict_number}
use Rattle.load_rules.specs.declared.Counts.{Counts}
use Rattle.load_rules.specs.Told.{LoadTold, Judged}

abbrev pub computed_of : Counts → ℕ
computed_of c = c.computed

abbrev pub missing_of : Counts → ℕ
missing_of c = c.missing

-- the 39 numbers of a load: total, 1 where a level is given, the level, V of the 18 groups, U of the 18 groups
unfoldable pub numbers_from : (total : ℕ) → Level → List Counts → List ℕ
numbers_from total level counts =
    total ∷ level_given level ∷ level_value level ∷ (map computed_of counts ++ map missing_of counts)

abbrev pub load_numbers : LoadTold → List ℕ
load_numbers a = numbers_from a.total a.level a.counts

-- V begins past the first three numbers, and U past V
abbrev pub computed_from : ℕ
computed_from = 3

abbrev pub missing_from : ℕ
missing_from = computed_from + group_count

abbrev pub load_size : ℕ
load_size = missing_from + group_count

-- the number of a verdict: 1 over, 0 within
abbrev pub verdict_numbers : Judged → List ℕ
verdict_numbers (Err n) = []
verdict_numbers (Ok v) = verdict_number v ∷ []
