-- No total is over 10^13 for each movement, so that M of a book fits 64 bits. Assumes nothing.
use Rattle.refusal.proofs.Ranges.{within_at}
use mathlib.Core.{Bool.Bool, Bool.true, Bool.false, Bool.cond, Bool.◌&&◌, List.List, List.[], List.◌∷◌}
use Prim.Native.Nat.{ℕ, ◌+◌, ◌*◌, ◌/◌, ◌≤◌, ◌<◌}
use native.Mathlib.{Nat.le_trans, Nat.add-mul, Nat.div-le_self, Nat.div-div-eq-div-mul, Omega.arith}
use lib.{ListN.get_or, Dec.eqb}
use Rattle.level.specs.{Limits.max_energy, Energy.mean_of}
use Rattle.level.proofs.{EnergyLaws.energy_le, ScaleLaws.scaled_le}
use Rattle.movement.specs.Limits.{group_count}
use Rattle.movement.proofs.Ranges.{periods_hold}
use Rattle.book_rules.specs.Columns.{top_level}
use Rattle.book_rules.specs.History.{Held, Movement, has_levels, mark_of, levels_of}
use Rattle.book_rules.specs.History.Held.{none, holds}
use Rattle.book_rules.proofs.Standing.{Filled, AllGood}
use Rattle.load_rules.specs.declared.Counts.{Counts}
use Rattle.load_rules.specs.Factors.{scaled_by, sum_to, known, known_sum, unknown_sum, group_factor, general_factor}
use Rattle.load_rules.specs.Afresh.{computed_in, held_energy, energy_of_group}
use Rattle.load_rules.proofs.SumLaws.{sum-le, sum_times}

-- S of a group

held_small : (p pt g : ℕ) (ls : List ℕ) → Filled p (holds ls) → held_energy pt g (holds ls) ≤ max_energy
unfolding held_energy top_level mark_of levels_of
held_small p pt g ls f =
    let l : get_or ls pt 0 ≤ 12000 = within_at 12000 ls pt f.within in
    energy_le _ (omega (arith, periods_hold.weight g))

one_small : (p pt g : ℕ) (m : Movement) → Filled p m.held
    → cond (eqb m.group g) (held_energy pt m.group m.held) 0 ≤ cond
    (eqb m.group g && has_levels m.held) 1 0 * max_energy
unfolding has_levels held_energy
one_small p pt g m = go (eqb m.group g) m.held
  where
    go : (t : Bool) (h : Held) → Filled p h
        → cond t (held_energy pt m.group h) 0 ≤ cond (t && has_levels h) 1 0 * max_energy
    go true none f = omega arith
    go true (holds ls) f = let h = held_small p pt m.group ls f in omega arith
    go false h f = omega arith

pub energy_small : (p pt g : ℕ) (ms : List Movement) → AllGood p ms
    → energy_of_group pt g ms ≤ computed_in g ms * max_energy
unfolding energy_of_group computed_in
energy_small p pt g [] s = omega arith
energy_small p pt g (m ∷ ms) s =
    rw add-mul (omega (arith, one_small p pt g m s.0.filled, energy_small p pt g ms s.1))

-- A group's scaled energy, their sum and the total

scaled_small : (c : Counts) (e : ℕ) → e ≤ c.computed * max_energy
    → scaled_by (group_factor c) e ≤ max_energy * known c
unfolding scaled_by known
scaled_small c e h = go (eqb c.computed 0)
  where
    go : (t : Bool)
        → cond t 0 (e * (c.computed + c.missing) / c.computed) ≤ max_energy * cond t 0 (c.computed + c.missing)
    go true = omega arith
    go false = scaled_le e (c.computed + c.missing) c.computed max_energy h

module _ (f : ℕ → Counts) (s : ℕ → ℕ) (each : (g : ℕ) → g < group_count
    → s g ≤ (f g).computed * max_energy) where
  sum_small : sum_to (λ g. scaled_by (group_factor (f g)) (s g)) group_count ≤ known_sum f * max_energy
  unfolding known_sum
  sum_small =
      omega (
        arith,
        sum-le (λ g. scaled_by (group_factor (f g)) (s g)) (λ g. max_energy * known (f g)) group_count
            (λ g h. scaled_small (f g) (s g) (each g h)),
        sum_times max_energy (λ g. known (f g)) group_count,
      )

  pub total_small : scaled_by (general_factor f) (sum_to (λ g. scaled_by (group_factor (f g)) (s g)) group_count) ≤
      max_energy * (known_sum f + unknown_sum f)
  unfolding scaled_by general_factor
  total_small = go (eqb (known_sum f) 0)
    where
      go : (t : Bool)
          → cond t 0 (sum_to (λ g. scaled_by (group_factor (f g)) (s g)) group_count *
          (known_sum f + unknown_sum f) / known_sum f) ≤ max_energy * (known_sum f + unknown_sum f)
      go true = omega arith
      go false = scaled_le _ (known_sum f + unknown_sum f) (known_sum f) max_energy sum_small

-- M is no more than the total
pub mean_small : (t d : ℕ) → mean_of t d ≤ t
mean_small t d =
    rw (← div-div-eq-div-mul (1000 * t) 86400 d) (le_trans (div-le_self (1000 * t / 86400) d) (omega arith))
