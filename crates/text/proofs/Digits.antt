-- A run of digits, one byte at a time. Assumes nothing.
use Rattle.std.specs.Prelude.{ℕ, suc, ◌+◌, ◌-◌, ◌*◌, ◌^◌, ◌<◌, ◌≤◌, Bool, true, false, cond, not, ◌&&◌, eqb, ltb, leb}
use mathlib.Core.{Path.◌≡◌, Path.refl, List.List, List.[], List.◌∷◌}
use native.Mathlib.{Nat.pow-le-pow_right, Nat.pow-suc, Nat.add-zero, Numerals.add-one, Omega.arith}
use borrow.Author.Tests.{le-leb, lt-leb, leb-true}
use lib.{ListN.length, ListN.get_or, ListN.take, ListN.drop, ListN.length-drop, Seq.drop-cons, Seq.take_all}
use Rattle.refusal.proofs.Laws.{and_left, and_right}
use Rattle.text.specs.Number.{value_of, is_got, is_digit, digits_of, whole_of}
use Rattle.std.specs.Prelude.{Option, Some, None}

pub digit_yes : (c : ℕ) → 48 ≤ c → c ≤ 57 → is_digit c ≡ true
digit_yes c lo hi = simp (le-leb 48 c lo, le-leb c 57 hi)

pub digit_low : (c : ℕ) → c < 48 → is_digit c ≡ false
digit_low c h = simp (lt-leb 48 c h)

pub digit_high : (c : ℕ) → 57 < c → is_digit c ≡ false
digit_high c h = simp (le-leb 48 c (omega arith), lt-leb c 57 h)

-- one byte further in a run of digits, and a byte that ends it
module _ (s : List ℕ) (v i : ℕ) (h : i < length s) where
  pub digits_step : is_digit (get_or s i 0) ≡ true
      → digits_of v (drop i s) ≡ digits_of (v * 10 + (get_or s i 0 - 48)) (drop (i + 1) s)
  unfolding digits_of
  digits_step e = rw (add-one, drop-cons s i 0 h, e)

  pub digits-stop : is_digit (get_or s i 0) ≡ false → digits_of v (drop i s) ≡ None
  unfolding digits_of
  digits-stop e = rw (drop-cons s i 0 h, e)

-- a value of i digits and one digit more has i + 1 digits; below seven digits it is below a million
pub grows : (v i d : ℕ) → v < 10 ^ i → d ≤ 9 → v * 10 + d < 10 ^ (i + 1)
grows v i d h e = rw (add-one, pow-suc 10 i) (omega arith)

pub million : (v i : ℕ) → v < 10 ^ i → i < 7 → v < 1000000
million v i h e = let p : 10 ^ i ≤ 10 ^ 6 = pow-le-pow_right (omega arith) {j = 6} (omega arith) in omega arith

-- a test goes one way or the other
pub either : {P : Type 0} (b : Bool) → (b ≡ true → P) → (b ≡ false → P) → P
either true p q = p refl
either false p q = q refl

pub digit_most : (c : ℕ) → is_digit c ≡ true → c ≤ 57
digit_most c e = leb-true c 57 (and_right (leb 48 c) (leb c 57) e)

-- what n digits spell is below 10 to the n
pub digits_below : (s : List ℕ) (v k n : ℕ) → v < 10 ^ k → digits_of v s ≡ Some n → n < 10 ^ (k + length s)
unfolding digits_of
digits_below [] v k n h e = let q : v ≡ n = cc in rw (add-zero k) (omega arith)
digits_below (c ∷ s) v k n h e =
    either (is_digit c)
    (λ yes. let most = digit_most c yes in
    let q : k + suc (length s) ≡ k + 1 + length s = omega arith in
    rw q (digits_below s (v * 10 + (c - 48)) (k + 1) n (grows v k (c - 48) h (omega arith)) (rw yes at e)))
    (λ no. let x : None ≡ Some n = rw no at e in let z : ◌≡◌ {A = ℕ} 0 1 = cc in absurd (omega arith))

-- at most seven digits spell a number below ten million, and so does a whole number
pub digits_small : (s : List ℕ) (n : ℕ) → length s ≤ 7 → digits_of 0 s ≡ Some n → n < 10000000
digits_small s n h e =
    let p : 10 ^ (0 + length s) ≤ 10 ^ 7 = pow-le-pow_right (omega arith) {j = 7} (omega arith) in
    let q = digits_below s 0 0 n (omega arith) e in
    omega arith

-- a test that let a value through was passed
pub passed : (b : Bool) (r : Option ℕ) (n : ℕ) → cond b r None ≡ Some n → (b ≡ true) × (r ≡ Some n)
passed true r n e = (refl, e)
passed false r n e = let z : ◌≡◌ {A = ℕ} 0 1 = cc in absurd (omega arith)

pub whole_small : (s : List ℕ) (n : ℕ) → whole_of s ≡ Some n → n < 10000000
unfolding whole_of
whole_small s n e =
    let p = passed _ (digits_of 0 s) n e in
    digits_small s n (leb-true _ _
    (and_right (leb 1 (length s)) _ (and_left _ (not (ltb 1 (length s) && eqb (get_or s 0 0) 48)) p.0))) p.1

-- a whole number of at most three digits is below a thousand
pub whole_below : (s : List ℕ) (n : ℕ) → length s ≤ 3 → whole_of s ≡ Some n → n < 1000
unfolding whole_of
whole_below s n h e =
    let p = passed (leb 1 (length s) && leb (length s) 7 && not (ltb 1 (length s) && eqb (get_or s 0 0) 48))
    (digits_of 0 s) n e in
    let q : 10 ^ (0 + length s) ≤ 10 ^ 3 = pow-le-pow_right (omega arith) {j = 3} (omega arith) in
    let below = digits_below s 0 0 n (omega arith) p.1 in
    omega arith

-- the rest of a list, as a part that runs to the end
pub part-rest : (s : List ℕ) (k : ℕ) → take (length s - k) (drop k s) ≡ drop k s
part-rest s k = take_all (length s - k) (drop k s) (simp length-drop (omega arith))

-- a field that was read has its value
pub got_value : (x : Option ℕ) → is_got x ≡ true → x ≡ Some (value_of x)
got_value (Some n) e = refl
got_value None e = let z : ◌≡◌ {A = ℕ} 0 1 = cc in absurd (omega arith)
