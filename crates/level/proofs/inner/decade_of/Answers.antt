-- `level::inner::decade_of` meets its contract: the decade is the power's, less the 3 of 1000. Assumes nothing.
use Rattle.std.specs.Prelude.{◌≡◌, ℕ, zero, suc, ◌+◌, ◌-◌, ◌*◌, ◌^◌, ◌<◌, ◌≤◌}
use native.Mathlib.Omega.{arith}
use lib.Pow.{pow-add}
use Rattle.level.proofs.inner.decade_of.Goals as goal

decade : (m k q : ℕ) → 1000 ≤ m → 10 ^ k ≤ m → m < 10 * 10 ^ k → q ≡ k - 3
    → (10 ^ (q + 3) ≤ m) × (m < 10 ^ (q + 4))
decade m zero q least low high e = absurd (omega arith)
decade m (suc zero) q least low high e = absurd (omega arith)
decade m (suc (suc zero)) q least low high e = absurd (omega arith)
decade m (suc (suc (suc p))) q least low high e =
    let k = suc (suc (suc p)) in
    let three : q + 3 ≡ k = omega arith in
    let four : q + 4 ≡ k + 1 = omega arith in
    (rw three low, rw (four, pow-add 10 k 1) (omega arith))

pub returns : goal.returns
returns c = decade _ _ _ c.requires c.ilog10.ensures.power_le c.ilog10.ensures.next_power_gt (omega arith)
