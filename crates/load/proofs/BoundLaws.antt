-- Laws of the sums over groups that movements within the bounds give: one group more fits, and so do the total and the
-- mean. Assumes nothing.
use mathlib.Core.{Path.◌≡◌, Path.refl, Bool.Bool, Bool.true, Bool.false, Bool.cond, List.List}
use Rattle.std.specs.Prelude.{ℕ, suc, ◌+◌, ◌-◌, ◌*◌, ◌/◌, ◌<◌, ◌≤◌, eqb}
use native.Mathlib.{Nat.div-le_self, Nat.div-div-eq-div-mul, Nat.le_trans, Omega.arith}
use Rattle.level.specs.{Limits.max_energy, Limits.max_total, Limits.max_mean, Energy.mean_of}
use Rattle.level.proofs.ScaleLaws.{scaled_le, div_mono}
use Rattle.movement.specs.Limits.{group_count}
use Rattle.load_rules.specs.declared.Group.{Group}
use Rattle.load_rules.specs.Factors.{ratio, scaled_by, sum_to, known}
use Rattle.load_rules.specs.Load.{counts_of, scaled_energy}
use Rattle.load_rules.proofs.{SumLaws.sum-le, SumLaws.sum_more, SumLaws.sum_times, FactorLaws.known_sum_lem}
use Rattle.load.specs.InnerSteps.{group_at, Scalable, Bounded, Fitting, sums_of}

-- a product with a factor is at most the highest energy for each movement above
pub scaled_by_le : (e u l : ℕ) → Scalable e u l → scaled_by (ratio u l) e ≤ max_energy * u
unfolding scaled_by
scaled_by_le e u l s = go (eqb l 0)
  where
    go : (t : Bool) → cond t 0 (e * u / l) ≤ max_energy * u
    go true = omega arith
    go false = scaled_le e u l max_energy s.energy

-- so a total is within the bounds
pub total_le : (e u l : ℕ) → Scalable e u l → scaled_by (ratio u l) e ≤ max_total
total_le e u l s = omega (arith, scaled_by_le e u l s, s.movements)

-- M of a total within the bounds
pub mean_le : (t d : ℕ) → t ≤ max_total → mean_of t d ≤ max_mean
mean_le t d h =
    le_trans (rw (← div-div-eq-div-mul (1000 * t) 86400 d) (div-le_self (1000 * t / 86400) d))
    (div_mono 86400 {a = 1000 * t} {b = 1000 * max_total} (omega arith) (omega arith))

-- a group's scaled energy is at most 10^13 for each of its movements
scaled_small : (c : Group) → c.energy ≤ c.computed * max_energy
    → scaled_energy c ≤ max_energy * known (counts_of c)
unfolding scaled_energy scaled_by known
scaled_small c h = go (eqb c.computed 0)
  where
    go : (t : Bool)
        → cond t 0 (c.energy * (c.computed + c.missing) / c.computed) ≤ max_energy * cond t 0
        (c.computed + c.missing)
    go true = omega arith
    go false = scaled_le c.energy (c.computed + c.missing) c.computed max_energy h

pub scaled_sum_small : (f : ℕ → Group) (n : ℕ)
    → ((g : ℕ) → g < n → (f g).energy ≤ (f g).computed * max_energy)
    → sum_to (λ g. scaled_energy (f g)) n ≤ max_energy * sum_to (λ g. known (counts_of (f g))) n
scaled_sum_small f n h =
    omega (
      arith,
      sum-le (λ g. scaled_energy (f g)) (λ g. max_energy * known (counts_of (f g))) n
          (λ g l. scaled_small (f g) (h g l)),
      sum_times max_energy (λ g. known (counts_of (f g))) n,
    )

sum_next : (k : ℕ → ℕ) (n : ℕ) → sum_to k (suc n) ≡ sum_to k n + k n
unfolding sum_to
sum_next k n = refl

pub fits_next : (cs : List (List (List Group))) → Bounded cs → (g : ℕ) → g < group_count
    → Fitting (sums_of (group_at cs) g) (group_at cs g)
unfolding sums_of
fits_next cs b g h =
    let f = group_at cs in
    let all : ℕ → ℕ = λ i. (f i).computed + (f i).missing in
    let e : 17 - g + suc g ≡ group_count = omega arith in
    let m : sum_to all (suc g) ≤ sum_to all group_count = rw (← e) (sum_more all (suc g) (17 - g)) in
    record {
      movements = omega (arith, known_sum_lem (λ i. counts_of (f i)) g, sum_next all g, m, b.movements);
      scaled = scaled_sum_small f g (λ i l. b.energies i (omega arith));
      energy = b.energies g h;
    }
