-- The movements computed and those without levels, of all groups: RULES, "Files and the report program".
-- Assumes nothing.
use Rattle.std.specs.Prelude.{ℕ, List, slice_index_or}
use Rattle.movement.specs.Limits.{group_count}
use Rattle.load_rules.specs.declared.Counts.{Counts}
use Rattle.load_rules.specs.Factors.{sum_to}

-- V and U of group g
abbrev pub counts_in : List Counts → ℕ → Counts
counts_in counts g = slice_index_or counts g (record { computed = 0; missing = 0 })

unfoldable pub all_computed : List Counts → ℕ
all_computed counts = sum_to (λ g. (counts_in counts g).computed) group_count

unfoldable pub all_missing : List Counts → ℕ
all_missing counts = sum_to (λ g. (counts_in counts g).missing) group_count
