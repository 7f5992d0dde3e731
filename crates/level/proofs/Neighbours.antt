-- Each number of RULES, "Energy and load", lies between its neighbours. Assumes nothing.
use mathlib.Core.{Path.◌≡◌, Path.refl, Path.subst, Bool.Bool, Bool.true, Bool.false, Bool.cond}
use Rattle.std.specs.Prelude.{ℕ, zero, suc, ◌+◌, ◌*◌, ◌/◌, ◌%◌, ◌^◌, ◌<◌, ◌≤◌, ltb, ◌↔◌}
use mathlib.Core.Logic.Iff
use native.Mathlib.Nat.{le_antisymm, lt_of_not-le, not-le_of_lt, suc-mul, div-mul-le_self, lt-div-mul-add}
use native.Mathlib.{Nat.le-div_iff_mul-le, Omega.arith}
use lib.Dec.{lit<}
use borrow.Author.Tests.{le-ltb, lt-ltb, ltb-true, ltb-false}
use Rattle.level.specs.declared.{Level.Level, Verdict.Verdict}
use Rattle.level.specs.declared.Level.TheVariants.{BelowZero, At}
use Rattle.level.specs.declared.Verdict.TheVariants.{Within, Over}
use Rattle.level.specs.{Tables.table_a, Energy.energy_of}
use Rattle.level.specs.Level.{level_given, level_value, verdict_number, bound, level_of, verdict_of}
use Rattle.level.specs.Neighbours.{Quotient, Reaches, SmallestReaching, ByNeighbours}
use Rattle.level.proofs.{EnergyLaws.a_root, EnergyLaws.b_root, Promises.below-zero, Promises.smallest}

quotient : (a b : ℕ) → zero < b → Quotient a b (a / b)
quotient a b h = record { reached = div-mul-le_self a b; next = rw suc-mul (lt-div-mul-add h) }

energy_between : (q k : ℕ) → k < 1000 → Quotient (table_a k * 10 ^ q) 1000000 (energy_of (1000 * q + k))
unfolding energy_of
energy_between q k h =
    let e : (1000 * q + k) % 1000 ≡ k = omega arith in
    let f : (1000 * q + k) / 1000 ≡ q = omega arith in
    rw (e, f) (quotient (table_a k * 10 ^ q) 1000000 (lit< tt))

-- The level

reaches : (m n : ℕ) → m ≤ bound n ↔ Reaches n m
unfolding bound
reaches m n = le-div_iff_mul-le (lit< tt)

-- of two levels that are each the smallest neither is before the other
not_before_rule : (m i j : ℕ) → SmallestReaching m i → SmallestReaching m j → i ≤ j
not_before_rule m i j a b = let l : i < suc j = lt_of_not-le (λ h. a.no_smaller j h b.reaches) in omega arith

level_smallest : (m : ℕ) → 1000 ≤ m → m < 2 ^ 64 → SmallestReaching m (level_value (level_of m))
level_smallest m lo hi =
    let s = smallest m lo hi in
    record {
      reaches = (reaches m (level_value (level_of m))).0 s.reaches;
      no_smaller = λ j l r. not-le_of_lt (s.no_smaller j l) ((reaches m j).1 r);
    }

level_exactly : (m n : ℕ) → 1000 ≤ m → m < 2 ^ 64 → level_value (level_of m) ≡ n ↔ SmallestReaching m n
level_exactly m n lo hi = (
  λ e. subst (SmallestReaching m) e (level_smallest m lo hi),
  λ s. le_antisymm (not_before_rule m _ n (level_smallest m lo hi) s)
      (not_before_rule m n _ s (level_smallest m lo hi)),
)

not-below : (m : ℕ) → ¬ (m < 1000) → 1000 ≤ m
not-below m h = let l : 999 < m = lt_of_not-le (λ g. h (omega arith)) in omega arith

given_from : (m : ℕ) → 1000 ≤ m → level_given (level_of m) ≡ 1
unfolding level_of
given_from m lo = rw (le-ltb m 1000 lo) refl

no_value : (m : ℕ) → m < 1000 → level_value (level_of m) ≡ 0
unfolding level_of
no_value m h = rw (lt-ltb m 1000 h) refl

-- The verdict

over_when : (l : Level) (limit : ℕ)
    → verdict_number (verdict_of l limit) ≡ 1 ↔ (level_given l ≡ 1) × (limit < level_value l)
over_when BelowZero limit = (λ e. absurd (omega arith), λ h. absurd (omega arith))
over_when (At n) limit = go (ltb limit n) refl
  where
    go : (b : Bool) → ltb limit n ≡ b
        → verdict_number (cond b Over Within) ≡ 1 ↔ (level_given (At n) ≡ 1) × (limit < n)
    go true e = (λ o. (refl, ltb-true limit n e), λ h. refl)
    go false e = (λ o. absurd (omega arith), λ h. absurd (omega (arith, ltb-false limit n e)))

zero_or_one : (v : Verdict) → verdict_number v ≡ 0 ↔ ¬ (verdict_number v ≡ 1)
zero_or_one Within = (λ e o. omega arith, λ n. refl)
zero_or_one Over = (λ e o. omega arith, λ n. absurd (n refl))

pub by_neighbours : ByNeighbours
by_neighbours =
    record {
      table_a_rule = a_root;
      table_b_rule = b_root;
      energy = energy_between;
      mean = λ total days h. quotient (1000 * total) (86400 * days) (omega arith);
      below-zero = λ m. (λ e. lt_of_not-le (λ h. let g = given_from m h in omega arith), below-zero m);
      no_value = no_value;
      given = λ m. (λ e. not-below m (λ h. let g = below-zero m h in omega arith), given_from m);
      level = level_exactly;
      over = over_when;
      within = λ l limit. Iff.trans (zero_or_one (verdict_of l limit)) (Iff.not (over_when l limit));
    }
