-- The two numbers printed at each point: of all groups, the movements computed and those without levels.
-- Assumes nothing.
use mathlib.Core.Path.{◌≡◌, refl, ◌∙◌}
use mathlib.Core.Bool.{Bool, true, false, cond, not, ◌&&◌, and-true, and-false}
use mathlib.Core.List.{List, [], ◌∷◌}
use Prim.Native.Nat.{ℕ, suc, ◌+◌, ◌<◌}
use native.Mathlib.Omega.{arith}
use lib.{Dec.eqb, ListN.length}
use borrow.Author.Tests.{lt-ltb}
use Rattle.movement.specs.Limits.{group_count}
use Rattle.book_rules.specs.History.{Movement, has_levels, Made, movements}
use Rattle.book_rules.proofs.{Standing.AllGood, History.told_all}
use Rattle.load_rules.specs.Told.{LoadTold}
use Rattle.load_rules.specs.{Factors.sum_to, Afresh.counts_at, Afresh.CountsEach}
use Rattle.load_rules.specs.Afresh as afresh
use Rattle.load_rules.proofs.SumLaws.{sum_add, sum_zero, sum_ext, sum_one}
use Rattle.report_text.specs.Totals as totals
use Rattle.report_rules.specs.Flights.{how_many, computed}

-- one movement, in its group alone
one_group : (g : ℕ) (t : Bool) → g < group_count → sum_to (λ k. cond (eqb g k && t) 1 0) group_count ≡ cond t 1 0
one_group g true h =
    sum_ext (λ k. cond (eqb g k && true) 1 0) (λ k. cond (eqb g k) 1 0) group_count
    (λ k l. rw (and-true (eqb g k)) refl)
    ∙ sum_one g group_count ∙ rw (lt-ltb g group_count h) refl
one_group g false h =
    sum_ext (λ k. cond (eqb g k && false) 1 0) (λ k. 0) group_count (λ k l. rw (and-false (eqb g k)) refl)
    ∙ sum_zero group_count

sum_computed : (p : ℕ) (ms : List Movement) → AllGood p ms
    → sum_to (λ g. afresh.computed_in g ms) group_count ≡ how_many computed ms
unfolding afresh.computed_in how_many
sum_computed p [] good = sum_zero group_count
sum_computed p (m ∷ ms) good =
    sum_add (λ g. cond (eqb m.group g && has_levels m.held) 1 0) (λ g. afresh.computed_in g ms) group_count
    ∙ omega (arith, one_group m.group (has_levels m.held) good.0.group<, sum_computed p ms good.1)

sum_missing : (p : ℕ) (ms : List Movement) → AllGood p ms
    → sum_to (λ g. afresh.missing_in g ms) group_count ≡ how_many (λ m. not (computed m)) ms
unfolding afresh.missing_in how_many
sum_missing p [] good = sum_zero group_count
sum_missing p (m ∷ ms) good =
    sum_add (λ g. cond (eqb m.group g && not (has_levels m.held)) 1 0) (λ g. afresh.missing_in g ms) group_count
    ∙ omega (arith, one_group m.group (not (has_levels m.held)) good.0.group<, sum_missing p ms good.1)

-- of the load at a point that counts each movement
module _ (p n pt days : ℕ) (cs : List Made) (a : LoadTold) (each : CountsEach a pt (movements p n cs) days) where
  pub computed_printed : totals.all_computed a.counts ≡ how_many computed (movements p n cs)
  unfolding totals.all_computed
  computed_printed =
      sum_ext (λ g. (counts_at a g).computed) (λ g. afresh.computed_in g (movements p n cs)) group_count each.computed
      ∙ sum_computed p (movements p n cs) (told_all p n cs).good

  pub missing_printed : totals.all_missing a.counts ≡ how_many (λ m. not (computed m)) (movements p n cs)
  unfolding totals.all_missing
  missing_printed =
      sum_ext (λ g. (counts_at a g).missing) (λ g. afresh.missing_in g (movements p n cs)) group_count each.missing
      ∙ sum_missing p (movements p n cs) (told_all p n cs).good

-- with levels or without: there is no third
pub both : (ms : List Movement) → how_many computed ms + how_many (λ m. not (computed m)) ms ≡ length ms
unfolding how_many
both [] = refl
both (m ∷ ms) = go (computed m) (both ms)
  where
    go : (t : Bool) → how_many computed ms + how_many (λ k. not (computed k)) ms ≡ length ms
        → cond t 1 0 + how_many computed ms + (cond (not t) 1 0 + how_many (λ k. not (computed k)) ms)
        ≡ suc (length ms)
    go true e = omega arith
    go false e = omega arith
