-- Laws of V, U and S: two lists of shares, how many there are, and rule 10. Assumes nothing.
use mathlib.Core.Path.{◌≡◌, refl, sym, ap, ◌∙◌}
use mathlib.Core.Bool.{Bool, true, false, cond, not, ◌&&◌, false≢true}
use mathlib.Core.List.{List, [], ◌∷◌, ◌++◌}
use Prim.Native.Nat.{ℕ, zero, suc, ◌+◌, ◌≤◌, ◌<◌}
use native.Mathlib.Omega.{arith}
use lib.{ListN.length, Dec.eqb, Dec.ltb}
use borrow.Author.Tests.{lt-ltb, ne_eqb, eq-eqb}
use Rattle.movement.specs.Limits.{group_count}
use Rattle.load_rules.specs.declared.Counts.{Counts}
use Rattle.load_rules.specs.Shares.{Share, any_computed}
use Rattle.load_rules.specs.Shares.Share.{has, lacks}
use Rattle.load_rules.specs.Tally.{adds_computed, adds_missing, sum_of, tally}
use Rattle.load_rules.specs.Factors.{sum_to, known, known_sum, unknown_sum}
use Rattle.load_rules.specs.Load.{counts_of, none_computed}
use Rattle.load_rules.proofs.SumLaws.{sum_add, sum_zero, sum_ext, sum-le, sum_one}
use Rattle.load_rules.proofs.FactorLaws.{known_sum_lem, computed-known}

pub sum-append : (w : Share → ℕ) (a b : List Share) → sum_of w (a ++ b) ≡ sum_of w a + sum_of w b
unfolding sum_of
sum-append w [] b = omega arith
sum-append w (s ∷ a) b = omega (arith, sum-append w a b)

-- V and U of each group
abbrev pub counts : List Share → ℕ → Counts
counts ss g = counts_of (tally ss g)

-- The number of movements

-- a share's group
abbrev pub group_in : Share → ℕ
group_in (has g e) = g
group_in (lacks g) = g

abbrev pub AllGrouped : List Share → Type 0
AllGrouped [] = Unit {0}
AllGrouped (s ∷ ss) = (group_in s < group_count) × AllGrouped ss

pub grouped_append : (a b : List Share) → AllGrouped a → AllGrouped b → AllGrouped (a ++ b)
grouped_append [] b h k = k
grouped_append (s ∷ a) b h k = (h.0, grouped_append a b h.1 k)

adds_one : (g : ℕ) (s : Share) → adds_computed g s + adds_missing g s ≡ cond (eqb (group_in s) g) 1 0
unfolding adds_computed adds_missing
adds_one g (has h e) = omega arith
adds_one g (lacks h) = omega arith

-- V + U of all groups, summed
abbrev pub counted : List Share → ℕ
counted ss = sum_to (λ g. (tally ss g).computed + (tally ss g).missing) group_count

counted_more_lem : (s : Share) (ss : List Share)
    → counted (s ∷ ss) ≡ cond (ltb (group_in s) group_count) 1 0 + counted ss
unfolding tally sum_of
counted_more_lem s ss =
    sum_ext _ (λ g. cond (eqb (group_in s) g) 1 0 + ((tally ss g).computed + (tally ss g).missing)) group_count
    (λ g h. omega (arith, adds_one g s))
    ∙ sum_add (λ g. cond (eqb (group_in s) g) 1 0) (λ g. (tally ss g).computed + (tally ss g).missing) group_count
    ∙ ap (λ n. n + counted ss) (sum_one (group_in s) group_count)

counted_none : counted [] ≡ 0
unfolding tally sum_of
counted_none = sum_zero group_count

pub counted_le_lem : (ss : List Share) → counted ss ≤ length ss
counted_le_lem [] = omega (arith, counted_none)
counted_le_lem (s ∷ ss) = go (ltb (group_in s) group_count) (counted_more_lem s ss) (counted_le_lem ss)
  where
    go : (b : Bool) → counted (s ∷ ss) ≡ cond b 1 0 + counted ss → counted ss ≤ length ss
        → counted (s ∷ ss) ≤ suc (length ss)
    go true e i = omega arith
    go false e i = omega arith

-- every movement stands in one group
pub counted_all : (ss : List Share) → AllGrouped ss → counted ss ≡ length ss
counted_all [] a = counted_none
counted_all (s ∷ ss) a = rw (counted_more_lem s ss, lt-ltb _ _ a.0) (omega (arith, counted_all ss a.1))

-- V + U and W are all of them
pub all_standing : (ss : List Share) → AllGrouped ss → known_sum (counts ss) + unknown_sum (counts ss) ≡ length ss
unfolding known_sum unknown_sum
all_standing ss a = known_sum_lem (counts ss) group_count ∙ counted_all ss a

-- Where one is computed

some_computed_lem : (ss : List Share) → AllGrouped ss → any_computed ss ≡ true
    → 1 ≤ sum_to (λ g. (tally ss g).computed) group_count
unfolding any_computed tally sum_of adds_computed
some_computed_lem [] a e = absurd (false≢true e)
some_computed_lem (has g x ∷ ss) a e =
    omega (
      arith,
      sum_add (λ h. cond (eqb g h) 1 0) (λ h. (tally ss h).computed) group_count,
      sum_one g group_count
          ∙ ap (λ (t : Bool). cond t 1 0) (lt-ltb g group_count a.0),
    )
some_computed_lem (lacks g ∷ ss) a e =
    omega (
      arith,
      sum_ext (λ h. 0 + (tally ss h).computed) (λ h. (tally ss h).computed) group_count
          (λ h l. omega arith),
      some_computed_lem ss a.1 e,
    )

none_computed_lem : (ss : List Share) → any_computed ss ≡ false → (g : ℕ) → (tally ss g).computed ≡ 0
unfolding any_computed tally sum_of adds_computed
none_computed_lem [] e g = refl
none_computed_lem (has h x ∷ ss) e g = absurd (false≢true (sym e))
none_computed_lem (lacks h ∷ ss) e g = omega (arith, none_computed_lem ss e g)

pub some_known : (ss : List Share) → AllGrouped ss → any_computed ss ≡ true → zero < known_sum (counts ss)
unfolding known_sum
some_known ss a e =
    omega (
      arith,
      some_computed_lem ss a e,
      sum-le (λ g. (tally ss g).computed) (λ g. known (counts ss g)) group_count
          (λ g h. computed-known (counts ss g)),
    )

none_known : (ss : List Share) → any_computed ss ≡ false → known_sum (counts ss) ≡ 0
unfolding known_sum known
none_known ss e =
    sum_ext (λ g. known (counts ss g)) (λ g. 0) group_count (λ g h. rw (none_computed_lem ss e g) refl)
    ∙ sum_zero group_count

-- rule 10 by the sums: none known, some unknown
pub rule_ten : (ss : List Share) → AllGrouped ss
    → (eqb (known_sum (counts ss)) 0 && ltb 0 (unknown_sum (counts ss))) ≡ none_computed ss
unfolding none_computed
rule_ten ss a = go (any_computed ss) refl
  where
    go : (t : Bool) → any_computed ss ≡ t
        → (eqb (known_sum (counts ss)) 0 && ltb 0 (unknown_sum (counts ss))) ≡ (not t && ltb 0 (length ss))
    go true e = let s = some_known ss a e in rw (ne_eqb (known_sum (counts ss)) 0 (omega arith)) refl
    go false e =
        let k = none_known ss e in
        let u : unknown_sum (counts ss) ≡ length ss = omega (arith, all_standing ss a) in
        rw (eq-eqb (known_sum (counts ss)) 0 k, u) refl
