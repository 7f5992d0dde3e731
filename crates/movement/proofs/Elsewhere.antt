-- Laws of `zero_elsewhere`: pair by pair, and point by point. Assumes nothing.
use mathlib.Core.{Path.◌≡◌, Path.refl, Path.ap, Path.◌∙◌, Bool.Bool, Bool.true, Bool.◌&&◌, Bool.◌||◌, Bool.or-true}
use Rattle.std.specs.Prelude.{ℕ, zero, suc, ◌<◌, List, [], ◌∷◌, ◌==◌, nat_lt}
use Rattle.std.specs.List.{list_all, zip}
use native.Mathlib.{Nat.not-suc-le-zero, Omega.arith}
use lib.{Dec.eqb, Dec.ltb, ListN.length, ListN.get_or, ListN.replicate}
use borrow.Author.Tests.{eqb-true, eq-eqb, lt-ltb}
use Rattle.refusal.proofs.{Laws.and_left, Laws.and_right}
use Rattle.movement.specs.Rules.{zero_elsewhere}

-- as the code reads them, pair by pair
pairs : (cs ls : List ℕ) → list_all (λ p. nat_lt 0 p.0 || p.1 == 0) (zip cs ls) ≡ zero_elsewhere cs ls
unfolding zero_elsewhere
pairs [] ls = refl
pairs (c ∷ cs) [] = refl
pairs (c ∷ cs) (l ∷ ls) = ap (λ t. (nat_lt 0 c || l == 0) && t) (pairs cs ls)

pub elsewhere_pairs : (cs ls : List ℕ) (b : Bool) → b ≡ list_all (λ p. nat_lt 0 p.0 || p.1 == 0) (zip cs ls)
    → b ≡ zero_elsewhere cs ls
elsewhere_pairs cs ls b e = e ∙ pairs cs ls

-- of one point
silent : (c l : ℕ) → (ltb 0 c || eqb l 0) ≡ true → c ≡ 0 → l ≡ 0
silent zero l e z = eqb-true l 0 e
silent (suc c) l e z = absurd (omega arith)

passes : (c l : ℕ) → (c ≡ 0 → l ≡ 0) → (ltb 0 c || eqb l 0) ≡ true
passes zero l h = eq-eqb l 0 (h refl)
passes (suc c) l h = rw (lt-ltb 0 (suc c) (omega arith)) refl

-- where lists that passed don't count, the level is zero
pub elsewhere_at : (cs ls : List ℕ) (j : ℕ) → zero_elsewhere cs ls ≡ true → j < length cs
    → get_or cs j 0 ≡ 0 → get_or ls j 0 ≡ 0
unfolding zero_elsewhere
elsewhere_at [] ls j e h z = absurd (not-suc-le-zero h)
elsewhere_at (c ∷ cs) [] j e h z = refl
elsewhere_at (c ∷ cs) (l ∷ ls) zero e h z = silent c l (and_left (ltb 0 c || eqb l 0) _ e) z
elsewhere_at (c ∷ cs) (l ∷ ls) (suc j) e h z =
    elsewhere_at cs ls j (and_right (ltb 0 c || eqb l 0) _ e) (omega arith) z

-- and lists of which this holds pass
pub elsewhere_each : (cs ls : List ℕ) → ((j : ℕ) → j < length cs → get_or cs j 0 ≡ 0 → get_or ls j 0 ≡ 0)
    → zero_elsewhere cs ls ≡ true
unfolding zero_elsewhere
elsewhere_each [] ls h = refl
elsewhere_each (c ∷ cs) [] h = refl
elsewhere_each (c ∷ cs) (l ∷ ls) h =
    rw (passes c l (h 0 (omega arith))) (elsewhere_each cs ls (λ j k. h (suc j) (omega arith)))

-- levels that are zeros pass wherever the movement counts
pub elsewhere_zeros : (cs : List ℕ) (n : ℕ) → zero_elsewhere cs (replicate n 0) ≡ true
unfolding zero_elsewhere
elsewhere_zeros [] n = refl
elsewhere_zeros (c ∷ cs) zero = refl
elsewhere_zeros (c ∷ cs) (suc n) = rw (or-true (ltb 0 c)) (elsewhere_zeros cs n)
