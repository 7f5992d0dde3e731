-- A group, and the tally, with one row more. Assumes nothing.
use mathlib.Core.{Path.◌≡◌, Path.refl, Path.ap, Path.fun_ext, Path.◌∙◌, Bool.Bool, Bool.true, Bool.false, Bool.cond}
use Rattle.std.specs.Prelude.{ℕ, ◌+◌, ◌<◌, List, [], ◌∷◌, ◌++◌}
use mathlib.Core.List.{append-nil}
use native.Mathlib.{Nat.add-zero, Omega.arith}
use lib.{ListN.set, Dec.eqb}
use borrow.Author.Tests.{eqb-true, eq-eqb, ne_eqb}
use Rattle.movement.specs.Limits.{group_count}
use Rattle.load_rules.specs.declared.Group.{Group}
use Rattle.load_rules.specs.Shares.{Share, energy_in, row_share}
use Rattle.load_rules.specs.Shares.Share.{has, lacks}
use Rattle.load_rules.specs.Tally.{group_with, adds_computed, adds_missing, adds_energy, sum_of, tally}
use Rattle.load_rules.proofs.TallyLaws.{sum-append}
use Rattle.load.specs.InnerSteps.{flat, flat_at, with_row}
use Rattle.load.proofs.CellLaws.{at_flat, put_flat}

-- A group with one row more, by its mark

module _ (c : Group) (g m l : ℕ) where
  pub row_missing : m ≡ 0 → group_with c.computed (c.missing + 1) c.energy ≡ with_row c g m l
  unfolding with_row
  row_missing e = rw (eq-eqb m 0 e) refl

  pub row_computed : (e : ℕ) → (m ≡ 0 → ⊥) → e ≡ energy_in g l
      → group_with (c.computed + 1) c.missing (c.energy + e) ≡ with_row c g m l
  unfolding with_row
  row_computed e k q = rw (ne_eqb m 0 k, q) refl

-- One share more

last : (w : Share → ℕ) (ss : List Share) (s : Share) → sum_of w (ss ++ (s ∷ [])) ≡ sum_of w ss + w s
unfolding sum_of
last w ss s = sum-append w ss (s ∷ []) ∙ omega arith

-- a store at the group of the row
module _ (ss : List Share) (g h : ℕ) where
  more_missing : cond (eqb g h) (group_with (tally ss g).computed ((tally ss g).missing + 1) (tally ss g).energy)
      (tally ss h) ≡ tally (ss ++ (lacks g ∷ [])) h
  unfolding tally adds_computed adds_missing adds_energy
  more_missing =
      rw (last (adds_computed h) ss (lacks g), last (adds_missing h) ss (lacks g), last (adds_energy h) ss (lacks g))
      (go (eqb g h) refl)
    where
      go : (t : Bool) → eqb g h ≡ t
          → cond t (group_with (tally ss g).computed ((tally ss g).missing + 1) (tally ss g).energy) (tally ss h)
          ≡ group_with (sum_of (adds_computed h) ss + 0) (sum_of (adds_missing h) ss + cond t 1 0)
          (sum_of (adds_energy h) ss + 0)
      go true q = rw (eqb-true g h q) (simp add-zero)
      go false q = simp add-zero

  more_computed : (e : ℕ)
      → cond (eqb g h) (group_with ((tally ss g).computed + 1) (tally ss g).missing ((tally ss g).energy + e))
      (tally ss h) ≡ tally (ss ++ (has g e ∷ [])) h
  unfolding tally adds_computed adds_missing adds_energy
  more_computed e =
      rw (last (adds_computed h) ss (has g e), last (adds_missing h) ss (has g e), last (adds_energy h) ss (has g e))
      (go (eqb g h) refl)
    where
      go : (t : Bool) → eqb g h ≡ t
          → cond t (group_with ((tally ss g).computed + 1) (tally ss g).missing ((tally ss g).energy + e)) (tally ss h)
          ≡ group_with (sum_of (adds_computed h) ss + cond t 1 0) (sum_of (adds_missing h) ss + 0)
          (sum_of (adds_energy h) ss + cond t e 0)
      go true q = rw (eqb-true g h q) (simp add-zero)
      go false q = simp add-zero

  more_row : (m c l : ℕ) → (c ≡ 0 → ⊥)
      → cond (eqb g h) (with_row (tally ss g) g m l) (tally ss h) ≡ tally (ss ++ row_share g m c l) h
  unfolding with_row row_share
  more_row m c l n = rw (ne_eqb c 0 n) (go (eqb m 0))
    where
      go : (u : Bool)
          → cond (eqb g h)
          (cond u (group_with (tally ss g).computed ((tally ss g).missing + 1) (tally ss g).energy)
          (group_with ((tally ss g).computed + 1) (tally ss g).missing ((tally ss g).energy + energy_in g l)))
          (tally ss h)
          ≡ tally (ss ++ (cond u (lacks g) (has g (energy_in g l)) ∷ [])) h
      go true = more_missing
      go false = more_computed (energy_in g l)

-- one row more that counts
pub row_flat : (ss : List Share) (g m c l : ℕ) → g < group_count → (c ≡ 0 → ⊥)
    → set (flat (tally ss)) g (with_row (flat_at (flat (tally ss)) g) g m l) ≡ flat (tally (ss ++ row_share g m c l))
row_flat ss g m c l h n =
    rw (at_flat (tally ss) g h, put_flat (tally ss) (with_row (tally ss g) g m l) g h)
    (ap flat (fun_ext (λ k. more_row ss g k m c l n)))

-- and one that doesn't
pub row_left_out : (ss : List Share) (g m c l : ℕ) → c ≡ 0 → ss ++ row_share g m c l ≡ ss
unfolding row_share
row_left_out ss g m c l e = rw (eq-eqb c 0 e) (append-nil ss)
