-- Four tests in the order 17, 12, 13, 14: what each number says of them. Assumes nothing.
use Prim.Native.Nat.{ℕ}
use mathlib.Core.{Path.◌≡◌, Path.refl, Bool.Bool, Bool.true, Bool.false, Bool.cond, Bool.◌&&◌}
use native.Mathlib.Omega.{arith}

pub record Ordered (a b c d : Bool) (n : ℕ) : Type 0 where
  pub off : n ≡ 17 → a ≡ false
  pub on : (n ≡ 17 → ⊥) → a ≡ true
  pub misfit : n ≡ 12 → (a ≡ true) × (b ≡ false)
  pub fits : (n ≡ 17 → ⊥) → (n ≡ 12 → ⊥) → b ≡ true
  pub unsound : n ≡ 13 → (a ≡ true) × (b ≡ true) × (c ≡ false)
  pub sound : (n ≡ 17 → ⊥) → (n ≡ 12 → ⊥) → (n ≡ 13 → ⊥) → c ≡ true
  pub narrow : n ≡ 14 → (a ≡ true) × (b ≡ true) × (d ≡ false)
  pub roomy : n ≡ 0 → (a ≡ true) × (b ≡ true) × (d ≡ true)
  pub known : (n ≡ 17 → ⊥) → (n ≡ 12 → ⊥) → (n ≡ 13 → ⊥) → (n ≡ 14 → ⊥) → n ≡ 0

pub ordered : (a b c d : Bool) → Ordered a b c d (cond a (cond b (cond c (cond d 0 14) 13) 12) 17)
ordered true true true true = record {
  off = λ e. absurd (omega arith);
  on = λ h. refl;
  misfit = λ e. absurd (omega arith);
  fits = λ g h. refl;
  unsound = λ e. absurd (omega arith);
  sound = λ g h i. refl;
  narrow = λ e. absurd (omega arith);
  roomy = λ e. (refl, refl, refl);
  known = λ g h i j. refl;
}
ordered true true true false = record {
  off = λ e. absurd (omega arith);
  on = λ h. refl;
  misfit = λ e. absurd (omega arith);
  fits = λ g h. refl;
  unsound = λ e. absurd (omega arith);
  sound = λ g h i. refl;
  narrow = λ e. (refl, refl, refl);
  roomy = λ e. absurd (omega arith);
  known = λ g h i j. absurd (j refl);
}
ordered true true false d = record {
  off = λ e. absurd (omega arith);
  on = λ h. refl;
  misfit = λ e. absurd (omega arith);
  fits = λ g h. refl;
  unsound = λ e. (refl, refl, refl);
  sound = λ g h i. absurd (i refl);
  narrow = λ e. absurd (omega arith);
  roomy = λ e. absurd (omega arith);
  known = λ g h i j. absurd (i refl);
}
ordered true false c d = record {
  off = λ e. absurd (omega arith);
  on = λ h. refl;
  misfit = λ e. (refl, refl);
  fits = λ g h. absurd (h refl);
  unsound = λ e. absurd (omega arith);
  sound = λ g h i. absurd (h refl);
  narrow = λ e. absurd (omega arith);
  roomy = λ e. absurd (omega arith);
  known = λ g h i j. absurd (h refl);
}
ordered false b c d = record {
  off = λ e. refl;
  on = λ h. absurd (h refl);
  misfit = λ e. absurd (omega arith);
  fits = λ g h. absurd (g refl);
  unsound = λ e. absurd (omega arith);
  sound = λ g h i. absurd (g refl);
  narrow = λ e. absurd (omega arith);
  roomy = λ e. absurd (omega arith);
  known = λ g h i j. absurd (g refl);
}

-- two tests with the same number are one
pub one_test_lem : (p q : Bool) (rest n : ℕ) → cond p (cond q rest n) n ≡ cond (p && q) rest n
one_test_lem true q rest n = refl
one_test_lem false q rest n = refl

pub both_true : (p q : Bool) → p ≡ true → q ≡ true → (p && q) ≡ true
both_true p q e f = rw (e, f) refl
