-- A test passes exactly if its fact holds, and refusals in their order: each number exactly where its fact fails and
-- every earlier one holds. Assumes nothing.
use Rattle.std.specs.Prelude.{◌≡◌, ℕ, suc, ◌<◌, ◌≤◌, eqb, ltb, leb}
use mathlib.Core.Path.{refl, sym}
use mathlib.Core.{Bool.Bool, Bool.true, Bool.false, Bool.not, Bool.◌&&◌, Bool.false≢true, Logic.◌↔◌}
use native.Mathlib.{Nat.lt_of_not-le, Nat.not-le_of_lt, Omega.arith}
use borrow.Author.Tests.{ltb-true, leb-true, eqb-true, lt-ltb, le-leb, eq-eqb}
use Rattle.refusal.specs.Refuse.{refuse}
use Rattle.refusal.proofs.Laws.{and_left, and_right}

-- Tests

pub less : (a b : ℕ) → ltb a b ≡ true ↔ a < b
less a b = (ltb-true a b, lt-ltb a b)

pub most : (a b : ℕ) → leb a b ≡ true ↔ a ≤ b
most a b = (leb-true a b, le-leb a b)

pub same : (a b : ℕ) → eqb a b ≡ true ↔ a ≡ b
same a b = (eqb-true a b, eq-eqb a b)

pub both : (a b : Bool) {A B : Type 0} → a ≡ true ↔ A → b ≡ true ↔ B → (a && b) ≡ true ↔ A × B
both a b f g = (λ e. (f.0 (and_left a b e), g.0 (and_right a b e)), λ h. rw (f.1 h.0, g.1 h.1) refl)

pub opposite : (t : Bool) → not t ≡ true ↔ t ≡ false
opposite true = (λ e. absurd (false≢true e), λ e. absurd (false≢true (sym e)))
opposite false = (λ e. refl, λ e. refl)

pub not-less : (a b : ℕ) → (¬ (a < b)) ↔ b ≤ a
not-less a b = (λ n. let l : b < suc a = lt_of_not-le n in omega arith, λ h l. not-le_of_lt l h)

-- Refusals

-- a refusal that stands first is given exactly where its fact fails
pub refused_first_lem : (n : ℕ) (ok : Bool) (rest : ℕ) {A : Type 0} → ok ≡ true ↔ A → ¬ (rest ≡ n)
    → refuse n ok rest ≡ n ↔ ¬ A
refused_first_lem n true rest f other = (λ e. absurd (other e), λ no. absurd (no (f.0 refl)))
refused_first_lem n false rest f other = (λ e a. false≢true (f.1 a), λ no. refl)

-- and any other exactly where it is given further on and this fact holds
pub refused_later : (n k : ℕ) (ok : Bool) (rest : ℕ) {A B : Type 0} → ok ≡ true ↔ A → ¬ (n ≡ k)
    → rest ≡ k ↔ B
    → refuse n ok rest ≡ k ↔ A × B
refused_later n k true rest f other g = (λ e. (f.0 refl, g.0 e), λ h. g.1 h.1)
refused_later n k false rest f other g = (λ e. absurd (other e), λ h. absurd (false≢true (f.1 h.0)))

-- no refusal exactly where the last fact holds
pub passed_last : (n : ℕ) (ok : Bool) {A : Type 0} → ok ≡ true ↔ A → ¬ (n ≡ 0)
    → refuse n ok 0 ≡ 0 ↔ A
passed_last n true f other = (λ e. f.0 refl, λ a. refl)
passed_last n false f other = (λ e. absurd (other e), λ a. absurd (false≢true (f.1 a)))

-- a number that neither this refusal nor a later one has is not given
pub not_given : (n k : ℕ) (ok : Bool) (rest : ℕ) → ¬ (n ≡ k) → ¬ (rest ≡ k)
    → ¬ (refuse n ok rest ≡ k)
not_given n k true rest a b = b
not_given n k false rest a b = a
