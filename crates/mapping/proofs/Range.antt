-- Sums and products of values that lie between whole numbers lie between the sums and products of those. Assumes
-- nothing.
use Rattle.std.specs.Prelude.{◌≡◌, ℕ, ◌+◌, ◌*◌, ◌^◌, ◌<◌, ◌≤◌, Bool, true, false, ◌||◌}
use mathlib.Core.Path.{refl, sym, ap, ◌∙◌}
use mathlib.Core.Bool.{beq, true≢false}
use native.Mathlib.Nat.{mul-one, mul-pos, mul_comm, mul_assoc, mul_right_comm, mul-le-mul}
use native.Mathlib.Nat.{mul-le-mul_right, le_of_mul-le-mul_right, le_of_eq, le_trans}
use native.Mathlib.{Nat.mul-mul-mul_comm, Nat.add-mul, Omega.arith}
use lib.{Dec.T, Dec.ltb, Dec.eqb, Dec.lit<, Dec.lit≤, Dec.ltb→lt, Dec.eqb→eq, IntN.ℤ}
use lib.Ieee.{Float, nan, inf, fin, binary64, up, down, round, add, mul, sum, of_int, lt, eq, le, level}
use lib.Ieee.{Fits.down_pos, Fits.and_l, Exact.HasValue, Back.round_whole, Order.round_mono, Order.le_of_values}
use lib.Ieee.Scale.{finite, grid, round_val, round_under}
use Rattle.mapping.specs.Fractions.{whole}

-- x is finite, not negative, and lies from `low` to `high`
abbrev pub Ranged : Float → ℕ → ℕ → Type 0
Ranged nan low high = ⊥
Ranged (inf s) low high = ⊥
Ranged (fin true m e) low high = ⊥
Ranged (fin false m e) low high = (low * down e ≤ m * up e) × (m * up e ≤ high * down e)

or_elim : (a b : Bool) → T (a || b) → {X : Type 0} → (T a → X) → (T b → X) → X
or_elim true b h f g = f tt
or_elim false b h f g = g h

-- the order of two values that are not negative
cross : (m n : ℕ) (e d : ℤ) → T (le (fin false m e) (fin false n d)) → m * up e * down d ≤ n * up d * down e
unfolding le lt eq
cross m n e d h =
    let a = m * up e * down d in
    let b = n * up d * down e in
    or_elim (ltb a b) (level false a false b) h (λ l. omega (arith, ltb→lt a b l))
    (λ q. le_of_eq (eqb→eq a b (and_l (eqb a b) (beq false false || eqb a 0) q)))

-- what lies between two values, rounded, of whole numbers
between : (r l h : Float) (low high a c : ℕ) → (T (finite r) → HasValue r false a c)
    → HasValue l false low 1 → HasValue h false high 1 → T (le l r) → T (le r h) → Ranged r low high
unfolding le lt eq
between r nan h low high a c v p q s t = absurd p
between r (inf b) h low high a c v p q s t = absurd p
between r (fin b n d) nan low high a c v p q s t = absurd q
between r (fin b n d) (inf b') low high a c v p q s t = absurd q
between nan (fin b n d) (fin b' n' d') low high a c v p q s t = absurd s
between (inf true) (fin b n d) (fin b' n' d') low high a c v p q s t = absurd s
between (inf false) (fin b n d) (fin b' n' d') low high a c v p q s t = absurd t
between (fin true m e) (fin b n d) (fin b' n' d') low high a c v p q s t = absurd (true≢false (v tt).0)
between (fin false m e) (fin true n d) (fin b' n' d') low high a c v p q s t = absurd (true≢false p.0)
between (fin false m e) (fin false n d) (fin true n' d') low high a c v p q s t = absurd (true≢false q.0)
between (fin false m e) (fin false n d) (fin false n' d') low high a c v p q s t =
    let x : n * up d ≡ low * down d = sym (mul-one (n * up d)) ∙ p.1 in
    let y : n' * up d' ≡ high * down d' = sym (mul-one (n' * up d')) ∙ q.1 in (
      le_of_mul-le-mul_right (le_trans
          (le_of_eq (mul_right_comm low (down e) (down d) ∙ ap (λ (k : ℕ). k * down e) (sym x)))
          (cross n m d e s)) (down_pos d),
      le_of_mul-le-mul_right (le_trans (cross m n' e d' t)
          (le_of_eq (ap (λ (k : ℕ). k * down e) y ∙ mul_right_comm high (down d') (down e)))) (down_pos d'),
    )

round_ranged : (a c low high : ℕ) → 0 < c → low * c ≤ a → a ≤ high * c → low ≤ 2 ^ 53
    → high ≤ 2 ^ 53 → Ranged (round binary64 false a c) low high
round_ranged a c low high z p q l h =
    between (round binary64 false a c) (round binary64 false low 1) (round binary64 false high 1) low high
    (grid binary64 a c) (2 ^ 1074)
    (λ f. round_val binary64 a c (round_under binary64 a c f)) (round_whole binary64 false low l)
    (round_whole binary64 false high h)
    (round_mono binary64 low 1 a c (lit< tt) z (omega arith)) (round_mono binary64 a c high 1 z (lit< tt) (omega arith))

pub whole_ranged : (n : ℕ) → n ≤ 2 ^ 53 → Ranged (whole n) n n
unfolding of_int
whole_ranged n h = round_ranged n 1 n n (lit< tt) (omega arith) (omega arith) h h

pub quotient_ranged : (a c : ℕ) → 0 < c → a ≤ c → Ranged (round binary64 false a c) 0 1
quotient_ranged a c z h = round_ranged a c 0 1 z (omega arith) (omega arith) (lit≤ tt) (lit≤ tt)

-- from x / p and y / q to x / p + y / q and x / p * y / q
sum_low : (l l' x y p q : ℕ) → l * p ≤ x → l' * q ≤ y → (l + l') * (p * q) ≤ x * q + y * p
sum_low l l' x y p q h k =
    let a : l * p * q ≤ x * q = mul-le-mul_right q h in
    let b : l' * q * p ≤ y * p = mul-le-mul_right p k in
    let c : l * (p * q) ≡ l * p * q = sym (mul_assoc l p q) in
    let d : l' * (p * q) ≡ l' * q * p = ap (λ (n : ℕ). l' * n) (mul_comm p q) ∙ sym (mul_assoc l' q p) in
    omega (arith, add-mul l l' (p * q))

sum_high : (l l' x y p q : ℕ) → x ≤ l * p → y ≤ l' * q → x * q + y * p ≤ (l + l') * (p * q)
sum_high l l' x y p q h k =
    let a : x * q ≤ l * p * q = mul-le-mul_right q h in
    let b : y * p ≤ l' * q * p = mul-le-mul_right p k in
    let c : l * (p * q) ≡ l * p * q = sym (mul_assoc l p q) in
    let d : l' * (p * q) ≡ l' * q * p = ap (λ (n : ℕ). l' * n) (mul_comm p q) ∙ sym (mul_assoc l' q p) in
    omega (arith, add-mul l l' (p * q))

pub add_ranged : (x y : Float) (l h l' h' : ℕ) → Ranged x l h → Ranged y l' h' → l + l' ≤ 2 ^ 53
    → h + h' ≤ 2 ^ 53 → Ranged (add binary64 x y) (l + l') (h + h')
unfolding add sum
add_ranged nan y l h l' h' p q u v = absurd p
add_ranged (inf s) y l h l' h' p q u v = absurd p
add_ranged (fin true m e) y l h l' h' p q u v = absurd p
add_ranged (fin false m e) nan l h l' h' p q u v = absurd q
add_ranged (fin false m e) (inf t) l h l' h' p q u v = absurd q
add_ranged (fin false m e) (fin true n d) l h l' h' p q u v = absurd q
add_ranged (fin false m e) (fin false n d) l h l' h' p q u v =
    round_ranged (m * up e * down d + n * up d * down e) (down e * down d) (l + l') (h + h')
    (mul-pos (down_pos e) (down_pos d))
    (sum_low l l' (m * up e) (n * up d) (down e) (down d) p.0 q.0)
    (sum_high h h' (m * up e) (n * up d) (down e) (down d) p.1 q.1) u v

pub mul_ranged : (x y : Float) (l h l' h' : ℕ) → Ranged x l h → Ranged y l' h' → l * l' ≤ 2 ^ 53
    → h * h' ≤ 2 ^ 53 → Ranged (mul binary64 x y) (l * l') (h * h')
unfolding mul
mul_ranged nan y l h l' h' p q u v = absurd p
mul_ranged (inf s) y l h l' h' p q u v = absurd p
mul_ranged (fin true m e) y l h l' h' p q u v = absurd p
mul_ranged (fin false m e) nan l h l' h' p q u v = absurd q
mul_ranged (fin false m e) (inf t) l h l' h' p q u v = absurd q
mul_ranged (fin false m e) (fin true n d) l h l' h' p q u v = absurd q
mul_ranged (fin false m e) (fin false n d) l h l' h' p q u v =
    round_ranged (m * up e * (n * up d)) (down e * down d) (l * l') (h * h') (mul-pos (down_pos e) (down_pos d))
    (le_trans (le_of_eq (mul-mul-mul_comm l l' (down e) (down d))) (mul-le-mul p.0 q.0))
    (le_trans (mul-le-mul p.1 q.1) (le_of_eq (sym (mul-mul-mul_comm h h' (down e) (down d))))) u v

-- the same in terms of the order on values
pub at_least : (x : Float) (l h : ℕ) → l ≤ 2 ^ 53 → Ranged x l h → T (le (whole l) x)
unfolding of_int
at_least nan l h k p = absurd p
at_least (inf s) l h k p = absurd p
at_least (fin true m e) l h k p = absurd p
at_least (fin false m e) l h k p =
    le_of_values (whole l) (fin false m e) l 1 (m * up e) (down e) (lit< tt) (down_pos e)
    (round_whole binary64 false l k) (refl, refl) (omega (arith, p.0))

pub at_most : (x : Float) (l h : ℕ) → h ≤ 2 ^ 53 → Ranged x l h → T (le x (whole h))
unfolding of_int
at_most nan l h k p = absurd p
at_most (inf s) l h k p = absurd p
at_most (fin true m e) l h k p = absurd p
at_most (fin false m e) l h k p =
    le_of_values (fin false m e) (whole h) (m * up e) (down e) h 1 (down_pos e) (lit< tt) (refl, refl)
    (round_whole binary64 false h k) (omega (arith, p.1))
