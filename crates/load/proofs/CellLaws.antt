-- Laws of the groups, as an array of arrays and side by side: what stands at a group's number, and what a store there
-- changes. Assumes nothing.
use mathlib.Core.{Path.◌≡◌, Path.refl, Path.sym, Path.subst, Bool.cond, Logic.⊎_elim, List.List}
use Rattle.std.specs.Prelude.{ℕ, zero, suc, ◌<◌}
use native.Mathlib.{Nat.eq-or-lt_of_le, Omega.arith}
use lib.{ListN.replicate, ListN.set, Dec.eqb}
use Rattle.load_rules.specs.declared.Group.{Group}
use Rattle.load.specs.InnerSteps.{table, group_at, flat, flat_at}

-- P holds at each number below n
abbrev All : (ℕ → Type 0) → ℕ → Type 0
All P zero = Unit {0}
All P (suc n) = All P n × P n

all-at : (P : ℕ → Type 0) (n : ℕ) → All P n → (g : ℕ) → g < n → P g
all-at P zero a g h = absurd (omega arith)
all-at P (suc n) a g h =
    ⊎_elim (λ e. subst P (sym e) a.1) (λ l. all-at P n a.0 g l) (eq-or-lt_of_le {n = g} {m = n} (omega arith))

-- each of the 18 places computes
r : {A : Type 0} {x : A} → x ≡ x
r = refl

pub at_table : (f : ℕ → Group) (g : ℕ) → g < 18 → group_at (table f) g ≡ f g
unfolding group_at table
at_table f =
    all-at (λ g. group_at (table f) g ≡ f g) 18
    ((((((((((((((((((tt, r), r), r), r), r), r), r), r), r), r), r), r), r), r), r), r), r), r)

pub at_flat : (f : ℕ → Group) (g : ℕ) → g < 18 → flat_at (flat f) g ≡ f g
unfolding flat_at flat
at_flat f =
    all-at (λ g. flat_at (flat f) g ≡ f g) 18
    ((((((((((((((((((tt, r), r), r), r), r), r), r), r), r), r), r), r), r), r), r), r), r), r)

pub put_flat : (f : ℕ → Group) (c : Group) (g : ℕ) → g < 18 → set (flat f) g c ≡ flat (λ h. cond (eqb g h) c (f h))
unfolding flat
put_flat f c =
    all-at (λ g. set (flat f) g c ≡ flat (λ h. cond (eqb g h) c (f h))) 18
    ((((((((((((((((((tt, r), r), r), r), r), r), r), r), r), r), r), r), r), r), r), r), r), r)

-- from one form to the other and back
pub flat-table : (f : ℕ → Group) → flat (group_at (table f)) ≡ flat f
unfolding flat group_at table
flat-table f = refl

pub table-flat : (f : ℕ → Group) → table (flat_at (flat f)) ≡ table f
unfolding table flat_at flat
table-flat f = refl

-- a list of 18, filled from the front
unfoldable pub filled : {A : Type 0} (none : A) (f : ℕ → A) → ℕ → List A
filled none f zero = replicate 18 none
filled none f (suc n) = set (filled none f n) n (f n)
