-- The factors are exact: V times both factors, summed over the groups with V > 0, is the number of movements; and a
-- product with one is rounded down. Assumes nothing.
use mathlib.Core.{Path.◌≡◌, Path.refl, Path.sym, Path.ap, Path.◌∙◌, Bool.Bool, Bool.true, Bool.false, Bool.cond}
use Prim.Native.Nat.{ℕ, zero, suc, ◌+◌, ◌*◌, ◌≤◌, ◌<◌}
use native.Mathlib.Nat.{add-zero, add-mul, suc-mul, mul_assoc, mul_comm, mul_left_comm, mul_right_comm, mul-one}
use native.Mathlib.Nat.{one-mul, mul-pos, eq_of_mul-eq-mul_left, div-mul-le_self, lt-div-mul-add}
use native.Mathlib.Omega.{arith}
use lib.Dec.{eqb, lit<}
use borrow.Author.Tests.{eqb-true, eqb-false, ne_eqb, eq-eqb}
use Rattle.movement.specs.Limits.{group_count}
use Rattle.load_rules.specs.declared.Counts.{Counts}
use Rattle.load_rules.specs.Factors.{Fraction, whole_fraction, times, plus, Equal, RoundedDown, scaled_by, sum_to}
use Rattle.load_rules.specs.Factors.{known, unknown, known_sum, unknown_sum, group_factor, general_factor}
use Rattle.load_rules.specs.Afresh.{weight_to}
use Rattle.load_rules.proofs.SumLaws.{sum_add, sum_ext}

-- a product is rounded down, and is 0 where nothing can be divided
pub rounded_down : (x : Fraction) (e : ℕ) → zero < x.lower → RoundedDown x e (scaled_by x e)
unfolding scaled_by
rounded_down x e h =
    rw (ne_eqb x.lower 0 (omega arith))
    (record { reached = div-mul-le_self (e * x.upper) x.lower; next = rw suc-mul (lt-div-mul-add h) })

pub never_divided : (x : Fraction) (e : ℕ) → x.lower ≡ 0 → scaled_by x e ≡ 0
unfolding scaled_by
never_divided x e h = rw (eq-eqb x.lower 0 h) refl

-- each movement is known or unknown
pub known_or_not : (c : Counts) → known c + unknown c ≡ c.computed + c.missing
unfolding known unknown
known_or_not c = go (eqb c.computed 0) refl
  where
    go : (t : Bool) → eqb c.computed 0 ≡ t
        → cond t 0 (c.computed + c.missing) + cond t c.missing 0 ≡ c.computed + c.missing
    go true e = omega (arith, eqb-true c.computed 0 e)
    go false e = omega arith

pub known_sum_lem : (f : ℕ → Counts) (n : ℕ)
    → sum_to (λ g. known (f g)) n + sum_to (λ g. unknown (f g)) n ≡ sum_to (λ g. (f g).computed + (f g).missing) n
known_sum_lem f n = sym (sum_add (λ g. known (f g)) (λ g. unknown (f g)) n) ∙ sum_ext _ _ n (λ g h. known_or_not (f g))

-- what is computed is known
pub computed-known : (c : Counts) → c.computed ≤ known c
unfolding known
computed-known c = go (eqb c.computed 0) refl
  where
    go : (t : Bool) → eqb c.computed 0 ≡ t → c.computed ≤ cond t 0 (c.computed + c.missing)
    go true e = omega (arith, eqb-true c.computed 0 e)
    go false e = omega arith

-- the factors depend on V and U alone
pub known_same : (f h : ℕ → Counts) → ((g : ℕ) → g < group_count → f g ≡ h g)
    → (known_sum f ≡ known_sum h) × (unknown_sum f ≡ unknown_sum h)
unfolding known_sum unknown_sum
known_same f h e = (
  sum_ext (λ g. known (f g)) (λ g. known (h g)) group_count (λ g l. ap known (e g l)),
  sum_ext (λ g. unknown (f g)) (λ g. unknown (h g)) group_count (λ g l. ap unknown (e g l)),
)

pub general_same : (f h : ℕ → Counts) → ((g : ℕ) → g < group_count → f g ≡ h g)
    → general_factor f ≡ general_factor h
unfolding general_factor
general_same f h e = cc ((known_same f h e).0, (known_same f h e).1)

-- one group more: a/b so far is k·g/n, and the group adds t·g/n, as v·(t/v)·(g/n)
more : (a b k g n v t : ℕ) → a * n ≡ k * g * b
    → (a * (1 * v * n) + v * t * g * b) * n ≡ (k + t) * g * (b * (1 * v * n))
more a b k g n v t e =
    rw (add-mul, mul_right_comm a (1 * v * n) n, e, add-mul k t g, add-mul (k * g) (t * g) (b * (1 * v * n)))
    (simp (one-mul, mul_assoc, mul_comm, mul_left_comm))

module _ (f : ℕ → Counts) where
  -- the sum over the groups below n is that of their V + U, times the general factor
  so_far : zero < (general_factor f).lower → (n : ℕ) → (zero < (weight_to f n).lower)
      × ((weight_to f n).upper * (general_factor f).lower
      ≡ sum_to (λ g. known (f g)) n * (general_factor f).upper * (weight_to f n).lower)
  unfolding weight_to sum_to known
  so_far some zero = (lit< tt, omega arith)
  so_far some (suc n) = go (eqb (f n).computed 0) refl (so_far some n).0 (so_far some n).1
    where
      k : ℕ
      k = sum_to (λ g. known (f g)) n

      added : Fraction
      added = plus (weight_to f n)
          (times (times (whole_fraction (f n).computed) (group_factor (f n))) (general_factor f))

      go : (t : Bool) → eqb (f n).computed 0 ≡ t → zero < (weight_to f n).lower
          → (weight_to f n).upper * (general_factor f).lower ≡ k * (general_factor f).upper * (weight_to f n).lower
          → (zero < (cond t (weight_to f n) added).lower)
          × ((cond t (weight_to f n) added).upper * (general_factor f).lower
          ≡ (k + cond t 0 ((f n).computed + (f n).missing)) * (general_factor f).upper * (cond t
          (weight_to f n) added).lower)
      go true e pos q = (pos, rw add-zero q)
      go false e pos q =
          let z = eqb-false (f n).computed 0 e in
          let v : zero < (f n).computed = omega arith in (
            mul-pos pos (mul-pos (rw one-mul v) some),
            more (weight_to f n).upper (weight_to f n).lower k (general_factor f).upper (general_factor f).lower
                (f n).computed ((f n).computed + (f n).missing) q,
          )

  -- over all groups that is V + U + W
  pub weights_all : zero < known_sum f → Equal (weight_to f group_count) (whole_fraction (known_sum f + unknown_sum f))
  unfolding known_sum general_factor
  weights_all some =
      record {
        left = (so_far some group_count).0;
        right = lit< tt;
        cross =
            rw mul-one (eq_of_mul-eq-mul_left (known_sum f) some _ _
            (mul_comm (known_sum f) (weight_to f group_count).upper ∙ (so_far some group_count).1
            ∙ mul_assoc (known_sum f) (known_sum f + unknown_sum f) (weight_to f group_count).lower));
      }
