-- The binary64 quotient of two whole numbers is the nearest value to their fraction, and keeps the fraction's
-- order. Assumes nothing.
use mathlib.Core.{Path.◌≡◌, Path.sym, Path.◌∙◌, Path.subst, Bool.false}
use Rattle.std.specs.Prelude.{ℕ, ◌*◌, ◌^◌, ◌<◌, ◌≤◌}
use native.Mathlib.{Nat.mul-one, Nat.mul-pos, Nat.mul_comm, Nat.mul_assoc, Nat.mul_left_comm, Omega.arith}
use borrow.Author.Tests.{ne_eqb}
use lib.Dec.{lit<}
use lib.Ieee.{Float, nan, inf, fin, Format, binary64, up, down, round, div, of_int}
use lib.Ieee.{Fits.down_pos, Exact.HasValue, Back.round_whole, Order.round_mono, Scale.round_same, Positive.first_pos}
use Rattle.mapping.specs.Fractions.{whole, Rounded}

pub whole_value_lem : (n : ℕ) → n ≤ 2 ^ 53 → HasValue (whole n) false n 1
unfolding of_int
whole_value_lem n h = round_whole binary64 false n h

-- a / b of two values that are whole numbers, b above 0
div_at : (f : Format) (x y : Float) (a b : ℕ) → HasValue x false a 1 → HasValue y false b 1 → 0 < b
    → div f x y ≡ round f false a b
unfolding div
div_at f nan y a b p q h = absurd p
div_at f (inf s) y a b p q h = absurd p
div_at f (fin s m e) nan a b p q h = absurd q
div_at f (fin s m e) (inf t) a b p q h = absurd q
div_at f (fin s m e) (fin t n d) a b p q h =
    let n-up : n * up d ≡ b * down d = sym (mul-one (n * up d)) ∙ q.1 in
    let m-up : m * up e ≡ a * down e = sym (mul-one (m * up e)) ∙ p.1 in
    let above : 0 < n * up d = subst (λ (k : ℕ). 0 < k) (sym n-up) (mul-pos h (down_pos d)) in
    let n_pos : 0 < n = first_pos n (up d) above in
    let cross : m * up e * down d * b ≡ a * (n * up d * down e) =
    rw (m-up, n-up) (simp (mul_assoc, mul_comm, mul_left_comm)) in
    rw (ne_eqb n 0 (omega arith), p.0, q.0)
    (round_same f false (m * up e * down d) (n * up d * down e) a b (mul-pos above (down_pos e)) h cross)

pub div-whole : (a b : ℕ) → a ≤ 2 ^ 53 → b ≤ 2 ^ 53 → 0 < b
    → div binary64 (whole a) (whole b) ≡ round binary64 false a b
div-whole a b p q h = div_at binary64 (whole a) (whole b) a b (whole_value_lem a p) (whole_value_lem b q) h

-- of a ≤ b, it lies from 0 to 1
pub rounded : (a b : ℕ) → a ≤ b → b ≤ 2 ^ 53 → 0 < b → Rounded a b (div binary64 (whole a) (whole b))
unfolding of_int
rounded a b h q z =
    let e : div binary64 (whole a) (whole b) ≡ round binary64 false a b = div-whole a b (omega arith) q z in
    record {
      nearest = e;
      low = rw e (round_mono binary64 0 1 a b (lit< tt) z (omega arith));
      high = rw e (round_mono binary64 a b 1 1 z (lit< tt) (omega arith));
    }
