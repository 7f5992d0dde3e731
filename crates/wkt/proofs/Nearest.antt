-- The rounded place: nearest, halves up, and never past the edge's end. Assumes nothing.
use Rattle.std.specs.Prelude.{◌≡◌, ℕ, ◌+◌, ◌*◌, ◌%◌, ◌<◌, ◌≤◌}
use native.Mathlib.Nat.{mod-lt, div-add-mod', div-lt_iff_lt-mul, add-mul, one-mul, mul_left_comm, mul-le-mul}
use native.Mathlib.{Nat.mul-le-mul_left, Nat.le_of_lt, Omega.arith}
use Rattle.network.specs.Limits.{max_side, max_spacing}
use Rattle.wkt.specs.Places.{nearest, offset_of}

-- r is a / b rounded to nearest, halves up: r - 1/2 ≤ a / b < r + 1/2
pub nearest_is_lem : (a b : ℕ) → 0 < b
    → (nearest a b * (2 * b) ≤ 2 * a + b) × (2 * a + b < nearest a b * (2 * b) + 2 * b)
nearest_is_lem a b h =
    let e = div-add-mod' (2 * a + b) (2 * b) in
    let l : (2 * a + b) % (2 * b) < 2 * b = mod-lt (2 * a + b) (omega arith) in
    (omega arith, omega arith)

pub offset_small : (spacing num den : ℕ) → 0 < den → num ≤ den → offset_of spacing num den ≤ 1000 * spacing
offset_small spacing num den z h =
    let p : 1000 * spacing * num ≤ 1000 * spacing * den = mul-le-mul_left (1000 * spacing) h in
    let e : (1000 * spacing + 1) * (2 * den) ≡ 2 * (1000 * spacing * den) + 2 * den =
    rw (add-mul, one-mul, mul_left_comm (1000 * spacing) 2 den) in
    let q : offset_of spacing num den < 1000 * spacing + 1 =
    (div-lt_iff_lt-mul {k = 2 * den} {x = 2 * (1000 * spacing * num) + den} {y = 1000 * spacing + 1}
    (omega arith)).1 (omega arith) in
    omega arith

-- the numbers that the code comes by fit
pub product_small : (spacing num : ℕ) → spacing ≤ max_spacing → num ≤ 4294967295
    → 1000 * spacing * num ≤ 2147483647500000
product_small spacing num h k = let a : 1000 * spacing ≤ 500000 = omega arith in omega (arith, mul-le-mul a k)

pub metres_small : (index spacing : ℕ) → index < max_side → spacing ≤ max_spacing → index * spacing ≤ 128000
metres_small index spacing h k = omega (arith, mul-le-mul (le_of_lt h) k)
