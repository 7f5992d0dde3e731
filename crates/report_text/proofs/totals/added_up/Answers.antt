use mathlib.Core.{Path.◌≡◌, Path.ap, Path.◌∙◌, List.List}
use Rattle.std.specs.Prelude.{ℕ, ◌+◌}
use native.Mathlib.{Numerals.add-one, Omega.arith}
use borrow.Author.Rules.{rules}
use Rattle.movement.specs.Limits.{group_count}
use Rattle.load_rules.specs.declared.Counts.{Counts}
use Rattle.load_rules.specs.Factors.{sum_to}
use Rattle.report_text.specs.Totals.{counts_in, all_computed, all_missing}
use Rattle.report_text.proofs.totals.added_up.Invariants.{to}
use Rattle.report_text.proofs.totals.added_up.Goals as goal

more : (f : Counts → ℕ) (counts : List Counts) (g : ℕ)
    → to f counts (g + 1) ≡ to f counts g + f (counts_in counts g)
unfolding sum_to
more f counts g = ap (to f counts) (add-one g)

pub loop-c-preserved : goal.loop-c-preserved
loop-c-preserved c =
    let counts = c.args.counts.now in
    let i = c.loop-c.c-index in
    let v = ap (λ (n : ℕ). n + (counts_in counts i).computed) c.loop-c.invariant.0 in
    let u = ap (λ (n : ℕ). n + (counts_in counts i).missing) c.loop-c.invariant.1 in (
      rw (more (λ k. k.computed) counts i) v,
      rw (more (λ k. k.missing) counts i) u,
      omega arith,
      omega arith,
    )

pub returns : goal.returns
unfolding all_computed all_missing
returns c =
    let counts = c.args.counts.now in
    let last : c.loop-c.c-index ≡ group_count = omega arith in (
      omega arith ∙ c.loop-c.invariant.0 ∙ ap (to (λ k. k.computed) counts) last,
      omega arith ∙ c.loop-c.invariant.1 ∙ ap (to (λ k. k.missing) counts) last,
    )

pub loop-c-init : goal.loop-c-init
loop-c-init c = unfold sum_to in search rules
