-- `report_text::totals::added_up` meets its contract. The loop's invariant: both sums are those of the groups passed,
-- each of which adds less than 2^32. Assumes nothing.
use mathlib.Core.{Path.◌≡◌, List.List}
use Rattle.std.specs.Prelude.{ℕ, ◌*◌, ◌^◌, ◌≤◌}
use Rattle.load_rules.specs.declared.Counts.{Counts}
use Rattle.load_rules.specs.Factors.{sum_to}
use Rattle.report_text.specs.Totals.{counts_in}
use Rattle.report_text.proofs.totals.added_up.Given as goal

-- V or U of the groups below g
abbrev pub to : (Counts → ℕ) → List Counts → ℕ → ℕ
to f counts g = sum_to (λ k. f (counts_in counts k)) g

abbrev pub invariant-loop-c : goal.invariant-loop-c
invariant-loop-c l =
    (l.computed ≡ to (λ c. c.computed) l.counts l.c-index)
    × (l.missing ≡ to (λ c. c.missing) l.counts l.c-index)
    × (l.computed ≤ l.c-index * 2 ^ 32) × (l.missing ≤ l.c-index * 2 ^ 32)
