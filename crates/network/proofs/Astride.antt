-- A crossed edge has a level below v at one end, and one of at least v at the other. Assumes nothing.
use mathlib.Core.{Path.◌≡◌, Path.refl, Path.sym, Bool.Bool, Bool.true, Bool.false, Bool.true≢false}
use Rattle.std.specs.Prelude.{ℕ, ◌<◌, ◌≤◌, leb, ◌⊎◌}
use mathlib.Core.Logic.{inl, inr, ⊎_elim}
use borrow.Author.Tests.{leb-true, leb-false}
use native.Mathlib.Omega.{arith}
use Rattle.network.specs.Crossed.{unlike, distance}

pub astride : (v a b : ℕ) → unlike (leb v a) (leb v b) ≡ true
    → ((a < v) × (v ≤ b)) ⊎ ((b < v) × (v ≤ a))
astride v a b h = go (leb v a) (leb v b) refl refl h
  where
    go : (p q : Bool) → leb v a ≡ p → leb v b ≡ q → unlike p q ≡ true
        → ((a < v) × (v ≤ b)) ⊎ ((b < v) × (v ≤ a))
    go true true p q e = absurd (true≢false (sym e))
    go true false p q e = inr (leb-false _ _ q, leb-true _ _ p)
    go false true p q e = inl (leb-false _ _ p, leb-true _ _ q)
    go false false p q e = absurd (true≢false (sym e))

-- of an edge with v between its levels, num is at most den, and den is not 0
pub num_den : (v a b : ℕ) → ((a < v) × (v ≤ b)) ⊎ ((b < v) × (v ≤ a))
    → (0 < distance b a) × (distance v a ≤ distance b a)
num_den v a b = ⊎_elim (λ w. (omega arith, omega arith)) (λ w. (omega arith, omega arith))
