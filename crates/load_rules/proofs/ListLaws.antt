-- The shares of a list of movements bring V, U and S of the movements themselves. Assumes nothing.
use mathlib.Core.Path.{◌≡◌, refl, ap}
use mathlib.Core.Bool.{Bool, true, false, cond, not, ◌&&◌, ◌||◌}
use mathlib.Core.List.{List, [], ◌∷◌}
use Prim.Native.Nat.{ℕ, suc}
use native.Mathlib.Omega.{arith}
use lib.{ListN.length, Dec.eqb}
use Rattle.book_rules.specs.History.{Held, Movement, has_levels}
use Rattle.book_rules.specs.History.Held.{none, holds}
use Rattle.load_rules.specs.Shares.{energy_in, any_computed, held_share, shares_of}
use Rattle.load_rules.specs.Tally.{adds_computed, adds_missing, adds_energy, sum_of, tally}
use Rattle.load_rules.specs.Afresh.{some_computed, computed_in, missing_in, held_energy, energy_of_group}

pub shares_count : (pt : ℕ) (ms : List Movement) → length (shares_of pt ms) ≡ length ms
unfolding shares_of
shares_count pt [] = refl
shares_count pt (m ∷ ms) = ap suc (shares_count pt ms)

pub shares_computed : (pt : ℕ) (ms : List Movement) → any_computed (shares_of pt ms) ≡ some_computed ms
unfolding shares_of any_computed some_computed held_share has_levels
shares_computed pt [] = refl
shares_computed pt (m ∷ ms) = go m.held (shares_computed pt ms)
  where
    go : (h : Held) → any_computed (shares_of pt ms) ≡ some_computed ms
        → any_computed (held_share pt m.group h ∷ shares_of pt ms) ≡ (has_levels h || some_computed ms)
    go none e = e
    go (holds ls) e = refl

-- one of the group, computed or not
picked : (t u : Bool) → ◌≡◌ {A = ℕ} (cond u (cond t 1 0) 0) (cond (t && u) 1 0)
picked true true = refl
picked true false = refl
picked false true = refl
picked false false = refl

nothing : (t : Bool) → ◌≡◌ {A = ℕ} 0 (cond t 0 0)
nothing true = refl
nothing false = refl

module _ (pt g : ℕ) where
  -- one movement
  one_computed : (h : ℕ) (l : Held) → adds_computed g (held_share pt h l) ≡ cond (eqb h g && has_levels l) 1 0
  unfolding held_share adds_computed has_levels
  one_computed h none = picked (eqb h g) false
  one_computed h (holds ls) = picked (eqb h g) true

  one_missing : (h : ℕ) (l : Held) → adds_missing g (held_share pt h l) ≡ cond (eqb h g && not (has_levels l)) 1 0
  unfolding held_share adds_missing has_levels
  one_missing h none = picked (eqb h g) true
  one_missing h (holds ls) = picked (eqb h g) false

  one_energy : (h : ℕ) (l : Held) → adds_energy g (held_share pt h l) ≡ cond (eqb h g) (held_energy pt h l) 0
  unfolding held_share adds_energy held_energy energy_in
  one_energy h none = nothing (eqb h g)
  one_energy h (holds ls) = refl

  -- all movements
  pub list_computed : (ms : List Movement) → (tally (shares_of pt ms) g).computed ≡ computed_in g ms
  unfolding tally shares_of sum_of computed_in
  list_computed [] = refl
  list_computed (m ∷ ms) = omega (arith, one_computed m.group m.held, list_computed ms)

  pub list_missing : (ms : List Movement) → (tally (shares_of pt ms) g).missing ≡ missing_in g ms
  unfolding tally shares_of sum_of missing_in
  list_missing [] = refl
  list_missing (m ∷ ms) = omega (arith, one_missing m.group m.held, list_missing ms)

  pub list_energy : (ms : List Movement) → (tally (shares_of pt ms) g).energy ≡ energy_of_group pt g ms
  unfolding tally shares_of sum_of energy_of_group
  list_energy [] = refl
  list_energy (m ∷ ms) = omega (arith, one_energy m.group m.held, list_energy ms)
