-- The moving coordinate of a map point, step by step: each is the nearest binary64 to the exact result, and the
-- last lies on the edge. Assumes nothing.
use mathlib.Core.{Path.◌≡◌, Path.refl, Path.ap, Path.◌∙◌, Bool.true, Bool.false, Bool.true≢false}
use Rattle.std.specs.Prelude.{ℕ, ◌+◌, ◌*◌, ◌<◌, ◌≤◌}
use native.Mathlib.Nat.{mul-one, one-mul, mul-pos, mul_comm, mul_assoc, mul_left_comm, mul-mul-mul_comm, mul-le-mul}
use native.Mathlib.{Nat.le_of_lt, Nat.add-zero, Nat.add-mul, Omega.arith}
use lib.Dec.{lit<}
use lib.Ieee.{Float, nan, inf, fin, binary64, up, down, round, add, mul, sum}
use lib.Ieee.{Fits.down_pos, Exact.HasValue, Scale.round_same}
use Rattle.network.specs.Limits.{max_side, max_spacing, max_origin}
use Rattle.mapping.specs.{Fractions.whole, Places.moving, Ranges.Value, Ranges.Moves}
use Rattle.mapping.proofs.Quotients.{whole_value_lem}
use Rattle.mapping.proofs.Range.{Ranged, whole_ranged, quotient_ranged, add_ranged, mul_ranged, at_least}
use Rattle.mapping.proofs.Range.{at_most}

-- what lies between two whole numbers has a value
value_of : (x : Float) (l h : ℕ) → Ranged x l h → Value x
value_of nan l h p = absurd p
value_of (inf s) l h p = absurd p
value_of (fin true m e) l h p = absurd p
value_of (fin false m e) l h p =
    record { over = m * up e; under = down e; above_zero = down_pos e; exact = (refl, refl) }

crosswise : (x k c d a e : ℕ) → x * c ≡ a * e → x * k * (c * d) ≡ a * d * (e * k)
crosswise x k c d a e h = mul-mul-mul_comm x k c d ∙ ap (λ (t : ℕ). t * (k * d)) h ∙ mul-mul-mul_comm a e k d
    ∙ simp (mul_assoc, mul_comm, mul_left_comm)

-- the sum and the product of two values: the exact result, rounded once
module _ (a c b d : ℕ) (c_pos : 0 < c) (d-pos : 0 < d) where
  add_at : (x y : Float) → HasValue x false a c → HasValue y false b d
      → add binary64 x y ≡ round binary64 false (a * d + b * c) (c * d)
  unfolding add sum
  add_at nan y p q = absurd p
  add_at (inf s) y p q = absurd p
  add_at (fin s m e) nan p q = absurd q
  add_at (fin s m e) (inf t) p q = absurd q
  add_at (fin true m e) (fin t n k) p q = absurd (true≢false p.0)
  add_at (fin false m e) (fin true n k) p q = absurd (true≢false q.0)
  add_at (fin false m e) (fin false n k) p q =
      let x : m * up e * down k * (c * d) ≡ a * d * (down e * down k) =
      crosswise (m * up e) (down k) c d a (down e) p.1 in
      let y : n * up k * down e * (c * d) ≡ b * c * (down e * down k) =
      ap (λ (t : ℕ). n * up k * down e * t) (mul_comm c d)
      ∙ crosswise (n * up k) (down e) d c b (down k) q.1
      ∙ ap (λ (t : ℕ). b * c * t) (mul_comm (down k) (down e)) in
      round_same binary64 false (m * up e * down k + n * up k * down e) (down e * down k) (a * d + b * c) (c * d)
      (mul-pos (down_pos e) (down_pos k)) (mul-pos c_pos d-pos)
      (omega (
        arith,
        add-mul (m * up e * down k) (n * up k * down e) (c * d),
        add-mul (a * d) (b * c) (down e * down k),
      ))

  mul_at : (x y : Float) → HasValue x false a c → HasValue y false b d
      → mul binary64 x y ≡ round binary64 false (a * b) (c * d)
  unfolding mul
  mul_at nan y p q = absurd p
  mul_at (inf s) y p q = absurd p
  mul_at (fin s m e) nan p q = absurd q
  mul_at (fin s m e) (inf t) p q = absurd q
  mul_at (fin true m e) (fin t n k) p q = absurd (true≢false p.0)
  mul_at (fin false m e) (fin true n k) p q = absurd (true≢false q.0)
  mul_at (fin false m e) (fin false n k) p q =
      round_same binary64 false (m * up e * (n * up k)) (down e * down k) (a * b) (c * d)
      (mul-pos (down_pos e) (down_pos k)) (mul-pos c_pos d-pos)
      (mul-mul-mul_comm (m * up e) (n * up k) c d ∙ rw (p.1, q.1) (mul-mul-mul_comm a (down e) b (down k)))

pub moves : (index num den spacing origin : ℕ) → index < max_side → 0 < den → num ≤ den
    → spacing ≤ max_spacing → origin ≤ max_origin
    → Moves index (round binary64 false num den) spacing origin
    (moving index (round binary64 false num den) spacing origin)
moves index num den spacing origin i z n s o =
    let more : index + 1 ≤ max_side = omega arith in
    let small : (index + 1) * spacing ≤ max_side * max_spacing = mul-le-mul more s in
    let less : index * spacing ≤ max_side * max_spacing = mul-le-mul (le_of_lt i) s in
    let f : Ranged (round binary64 false num den) 0 1 = quotient_ranged num den z n in
    let a = rw (add-zero index) at (add_ranged (whole index) (round binary64 false num den) index index 0 1
    (whole_ranged index (omega arith)) f (omega arith) (omega arith)) in
    let b = mul_ranged (add binary64 (whole index) (round binary64 false num den)) (whole spacing) index
    (index + 1) spacing spacing a (whole_ranged spacing (omega arith)) (omega arith) (omega arith) in
    let c = add_ranged (mul binary64 (add binary64 (whole index) (round binary64 false num den)) (whole spacing))
    (whole origin) (index * spacing) ((index + 1) * spacing) origin origin b (whole_ranged origin (omega arith))
    (omega arith) (omega arith) in
    let p : Value _ = value_of (round binary64 false num den) 0 1 f in
    let q : Value _ = value_of (add binary64 (whole index) (round binary64 false num den)) index (index + 1) a in
    let r : Value _ = value_of
    (mul binary64 (add binary64 (whole index) (round binary64 false num den)) (whole spacing)) (index * spacing)
    ((index + 1) * spacing) b in
    record {
      fraction_value_rule = p;
      sum = add binary64 (whole index) (round binary64 false num den);
      sum_is = add_at index 1 p.over p.under (lit< tt) p.above_zero (whole index)
          (round binary64 false num den) (whole_value_lem index (omega arith)) p.exact ∙ simp (mul-one, one-mul);
      sum_value_rule = q;
      product = mul binary64 (add binary64 (whole index) (round binary64 false num den)) (whole spacing);
      product_is = mul_at q.over q.under spacing 1 q.above_zero (lit< tt) _ (whole spacing) q.exact
          (whole_value_lem spacing (omega arith)) ∙ simp mul-one;
      product_value = r;
      last = add_at r.over r.under origin 1 r.above_zero (lit< tt) _ (whole origin) r.exact
          (whole_value_lem origin (omega arith)) ∙ simp mul-one;
      on_edge = (at_least _ _ _ (omega arith) c, at_most _ _ _ (omega arith) c);
    }
