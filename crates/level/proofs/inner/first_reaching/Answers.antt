use Rattle.std.specs.Prelude.{◌≡◌, ℕ, zero, suc, ◌+◌, ◌*◌, ◌^◌, ◌<◌, ◌≤◌}
use mathlib.Core.Path.{ap, sym, ◌∙◌}
use native.Mathlib.Nat.{lt_of_not-le, lt_of_le_of_lt, suc-mul, mul-le-mul_right, pow-le-pow_right}
use native.Mathlib.Omega.{arith}
use lib.{Dec.lit<, Pow.pow-add}
use Rattle.level.specs.declared.Level.TheVariants.{At}
use Rattle.level.specs.{Limits.max_mean, Tables.table_b, Level.bound, Level.level_of}
use Rattle.level.proofs.LevelLaws.{b_first, b_below, bound_at, bound_mono, bound_top, level_is}
use Rattle.level.proofs.inner.first_reaching.Invariants.{Missed}
use Rattle.level.proofs.inner.first_reaching.Goals as goal
use Rattle.level.proofs.inner.first_reaching.Goals.{After-decade_of-first}

-- B(999) is below 10^7, so the last bound before decade q is below 10^(q+3), and bounds rise
missed-before : (q m : ℕ) → 10 ^ (q + 3) ≤ m → Missed m (1000 * q)
missed-before zero m low j h = absurd (omega arith)
missed-before (suc q) m low j h =
    let one : 1 ≤ 10 ^ q = pow-le-pow_right (lit< tt) {i = 0} (omega arith) in
    let below = mul-le-mul_right (10 ^ q) (b_below 999 (lit< tt)) in
    let product = rw (suc-mul (table_b 999) (10 ^ q)) at below in
    let power : 10 ^ (suc q + 3) ≡ 10 ^ q * 10 ^ 4 = ap (λ (n : ℕ). 10 ^ n) (omega arith) ∙ pow-add 10 q 4 in
    lt_of_le_of_lt (bound_mono j (1000 * q + 999) (omega arith))
    (rw (bound_at (1000 * q + 999) q 999 (omega arith) (omega arith)) (omega arith))

-- B(0) is at least 10^6, so the first bound of the next decade is at least 10^(q+4)
next-reaches : (q m : ℕ) → m < 10 ^ (q + 4) → m ≤ bound (1000 * q + 1000)
next-reaches q m high =
    let product = mul-le-mul_right (10 ^ (q + 1)) b_first in
    let power : 10 ^ (q + 4) ≡ 10 ^ (q + 1) * 10 ^ 3 = rw (pow-add 10 q 4, pow-add 10 q 1) (omega arith) in
    rw (bound_at (1000 * q + 1000) (q + 1) 0 (omega arith) (omega arith)) (omega arith)

-- level 13,999 misses no mean in range
in_tables : (m n : ℕ) → m ≤ max_mean → Missed m n → n < 14000
in_tables m n most missed = lt_of_not-le (λ h. let g = missed 13999 h in omega (arith, bound_top))

found : (m n : ℕ) → 1000 ≤ m → m ≤ max_mean → Missed m n → m ≤ bound n → At n ≡ level_of m
found m n least most missed reached =
    sym (level_is m n least (omega (arith, in_tables m n most missed)) reached missed)

before : (c : After-decade_of-first) → Missed c.args.m (1000 * c.decade_of-first.result)
before c = missed-before _ _ c.decade_of-first.ensures.0

fits : (c : After-decade_of-first) → 1000 * c.decade_of-first.result < 14000
fits c = in_tables _ _ c.requires.1 (before c)

pub bound_at-requires : goal.bound_at-requires
bound_at-requires c =
    let p = c.requires in
    (in_tables _ _ p.1 c.loop-n.invariant, p.2, p.3)

pub returns-then-m-bound_at : goal.returns-then-m-bound_at
returns-then-m-bound_at c = found _ _ (omega arith) (omega arith) c.loop-n.invariant (omega arith)

pub returns : goal.returns
returns c =
    let d = c.decade_of-first in
    let e : c.loop-n.n ≡ 1000 * d.result + 1000 = omega arith in
    let level =
    found _ _ (omega arith) (omega arith) (rw e at c.loop-n.invariant) (next-reaches d.result _ d.ensures.1) in
    ap At (omega arith) ∙ level

pub overflow_mul-first : goal.overflow_mul-first
overflow_mul-first c = omega (arith, fits c)

pub overflow_add-n-end : goal.overflow_add-n-end
overflow_add-n-end c = omega (arith, fits c)

pub loop-n-init : goal.loop-n-init
loop-n-init c = before c
