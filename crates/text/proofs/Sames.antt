-- Laws of texts that are compared. Assumes nothing.
use Rattle.std.specs.Prelude.{ℕ, suc, false, length}
use mathlib.Core.{Path.◌≡◌, Path.refl, Path.ap, List.List, List.[], List.◌∷◌, Bool.true, Bool.and-false}
use native.Mathlib.Omega.{arith}
use borrow.Author.Tests.{eq-eqb, eqb-true}
use lib.Dec.{eqb}
use Rattle.refusal.proofs.Laws.{and_left, and_right}
use lib.Pointwise.{pointwise}
use Rattle.text.specs.Same.{same_text}

-- texts of unlike lengths
pub same_length : (a b : List ℕ) → (length a ≡ length b → ⊥) → same_text a b ≡ false
unfolding same_text
same_length [] [] n = absurd (n refl)
same_length [] (y ∷ b) n = refl
same_length (x ∷ a) [] n = refl
same_length (x ∷ a) (y ∷ b) n = rw (same_length a b (λ e. n (ap suc e))) (and-false (eqb x y))

-- Rust's `==` compares in the same way
pub same_pointwise : (a b : List ℕ) → pointwise eqb a b ≡ same_text a b
unfolding same_text
same_pointwise [] [] = refl
same_pointwise [] (y ∷ b) = refl
same_pointwise (x ∷ a) [] = refl
same_pointwise (x ∷ a) (y ∷ b) = rw (same_pointwise a b)

-- texts that are the same are equal, and a text is the same as itself
pub same_equal : (a b : List ℕ) → same_text a b ≡ true → a ≡ b
unfolding same_text
same_equal [] [] e = refl
same_equal [] (y ∷ b) e = let z : ◌≡◌ {A = ℕ} 0 1 = cc in absurd (omega arith)
same_equal (x ∷ a) [] e = let z : ◌≡◌ {A = ℕ} 0 1 = cc in absurd (omega arith)
same_equal (x ∷ a) (y ∷ b) e =
    let head = eqb-true x y (and_left (eqb x y) (same_text a b) e) in
    let rest = same_equal a b (and_right (eqb x y) (same_text a b) e) in cc

pub same_self : (a : List ℕ) → same_text a a ≡ true
unfolding same_text
same_self [] = refl
same_self (x ∷ a) = rw (eq-eqb x x refl) (same_self a)
