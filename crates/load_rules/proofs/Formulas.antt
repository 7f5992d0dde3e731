-- A total of both factors is the one of formulas 10 and 11, each step by its bounds. Assumes nothing.
use mathlib.Core.{Path.◌≡◌, Path.refl, Bool.cond}
use Prim.Native.Nat.{ℕ, zero, suc, ◌+◌, ◌*◌, ◌<◌}
use native.Mathlib.Omega.{arith}
use lib.Dec.{eqb, ltb}
use borrow.Author.Tests.{ne_eqb, lt-ltb}
use Rattle.level.specs.Neighbours.{Quotient}
use Rattle.movement.specs.Limits.{group_count}
use Rattle.load_rules.specs.declared.Counts.{Counts}
use Rattle.load_rules.specs.Factors.{Fraction, scaled_by, sum_to, known, unknown, known_sum}
use Rattle.load_rules.specs.{Factors.unknown_sum, Factors.group_factor, Factors.general_factor, Afresh.TotalHolds}
use Rattle.load_rules.proofs.{SumLaws.sum_ext, FactorLaws.rounded_down, FactorLaws.never_divided}

-- known and unknown by the test V > 0
known_tested : (v u : ℕ) → cond (eqb v 0) 0 (v + u) ≡ cond (ltb 0 v) (v + u) 0
known_tested zero u = refl
known_tested (suc v) u = rw (ne_eqb (suc v) 0 (λ e. omega arith), lt-ltb 0 (suc v) (omega arith)) refl

unknown_tested : (v u : ℕ) → cond (eqb v 0) u 0 ≡ cond (ltb 0 v) 0 u
unknown_tested zero u = refl
unknown_tested (suc v) u = rw (ne_eqb (suc v) 0 (λ e. omega arith), lt-ltb 0 (suc v) (omega arith)) refl

-- V + U over the groups with V > 0, and W, by that test
pub known_summed : (f : ℕ → Counts)
    → known_sum f ≡ sum_to (λ g. cond (ltb 0 (f g).computed) ((f g).computed + (f g).missing) 0) group_count
unfolding known_sum known
known_summed f = sum_ext _ _ group_count (λ g h. known_tested (f g).computed (f g).missing)

pub unknown_summed : (f : ℕ → Counts)
    → unknown_sum f ≡ sum_to (λ g. cond (ltb 0 (f g).computed) 0 (f g).missing) group_count
unfolding unknown_sum unknown
unknown_summed f = sum_ext _ _ group_count (λ g h. unknown_tested (f g).computed (f g).missing)

-- a product with a fraction, rounded down, is a quotient
pub quotient : (x : Fraction) (e : ℕ) → zero < x.lower → Quotient (e * x.upper) x.lower (scaled_by x e)
quotient x e h = let d = rounded_down x e h in record { reached = d.reached; next = d.next }

pub formulas : (f : ℕ → Counts) (s : ℕ → ℕ)
    → TotalHolds (λ g. (f g).computed) (λ g. (f g).missing) s
    (scaled_by (general_factor f) (sum_to (λ g. scaled_by (group_factor (f g)) (s g)) group_count))
unfolding general_factor
formulas f s =
    record {
      gives = λ g. scaled_by (group_factor (f g)) (s g);
      scaled = λ g h p. quotient (group_factor (f g)) (s g) p;
      nothing = λ g h z. never_divided (group_factor (f g)) (s g) z;
      known = known_sum f;
      known_is = known_summed f;
      unknown = unknown_sum f;
      unknown_is = unknown_summed f;
      total_is = λ h. quotient (general_factor f) _ h;
      empty = λ h. never_divided (general_factor f) _ h;
    }
