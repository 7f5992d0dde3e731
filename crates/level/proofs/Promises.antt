-- What levels mean, in the rules' numbers: the level is the smallest that reaches the mean. Assumes nothing.
use Rattle.std.specs.Prelude.{◌≡◌, ℕ, zero, suc, ◌+◌, ◌^◌, ◌<◌, ◌≤◌, leb}
use mathlib.Core.Path.{refl, sym, ap, ◌∙◌}
use mathlib.Core.{Bool.Bool, Bool.true, Bool.false, Bool.cond, Bool.true≢false, Logic.⊎_elim}
use native.Mathlib.{Nat.eq-or-lt_of_le, Omega.arith}
use borrow.Author.Tests.{le-leb, leb-true, leb-false, le-ltb, lt-ltb}
use Rattle.level.specs.declared.Level.{Level}
use Rattle.level.specs.Level.{level_given, level_value, bound, first_from, level_of}
use Rattle.level.proofs.LevelLaws.{bound_last}

-- the number found passes the test, where some number that is tried does
first_passes : (test : ℕ → Bool) (i f k : ℕ) → i ≤ k → k < i + f → test k ≡ true
    → test (first_from test i f) ≡ true
unfolding first_from
first_passes test i zero k lo hi t = absurd (omega arith)
first_passes test i (suc f) k lo hi t = go (test i) refl (λ later. first_passes test (suc i) f k later (omega arith) t)
  where
    go : (b : Bool) → test i ≡ b → (suc i ≤ k → test (first_from test (suc i) f) ≡ true)
        → test (cond b i (first_from test (suc i) f)) ≡ true
    go true e rest = e
    go false e rest = ⊎_elim (λ same. absurd (true≢false (sym t ∙ ap test (sym same) ∙ e))) rest
        (eq-or-lt_of_le lo)

-- and no number before it does
first_misses : (test : ℕ → Bool) (i f j : ℕ) → i ≤ j → j < first_from test i f → test j ≡ false
unfolding first_from
first_misses test i zero j lo hi = absurd (omega arith)
first_misses test i (suc f) j lo hi = go (test i) refl hi (λ later l. first_misses test (suc i) f j later l)
  where
    go : (b : Bool) → test i ≡ b → j < cond b i (first_from test (suc i) f)
        → (suc i ≤ j → j < first_from test (suc i) f → test j ≡ false) → test j ≡ false
    go true e l rest = absurd (omega arith)
    go false e l rest = ⊎_elim (λ same. ap test (sym same) ∙ e) (λ later. rest later l) (eq-or-lt_of_le lo)

-- a mean under 1000 is below zero
pub below-zero : (m : ℕ) → m < 1000 → level_given (level_of m) ≡ 0
unfolding level_of
below-zero m h = rw (lt-ltb m 1000 h) refl

-- any other of 64 bits has a level: the smallest n with m ≤ bound n
pub record Smallest (m : ℕ) (l : Level) : Type 0 where
  pub given : level_given l ≡ 1
  pub reaches : m ≤ bound (level_value l)
  pub no_smaller : (j : ℕ) → j < level_value l → bound j < m

pub smallest : (m : ℕ) → 1000 ≤ m → m < 2 ^ 64 → Smallest m (level_of m)
unfolding level_of
smallest m lo hi =
    let test : ℕ → Bool = λ n. leb m (bound n) in
    rw (le-ltb m 1000 lo)
    (record {
      given = refl;
      reaches =
          leb-true m _ (first_passes test 0 20000 19999 (omega arith) (omega arith)
          (le-leb m (bound 19999) (omega (arith, bound_last))));
      no_smaller = λ j l. leb-false m (bound j) (first_misses test 0 20000 j (omega arith) l);
    })
