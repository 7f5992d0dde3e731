-- Which edges are on the border, by their numbers: no contour enters at the others. Assumes nothing.
use Rattle.std.specs.Prelude.{◌≡◌, ℕ, ◌+◌, ◌-◌, ◌*◌, ◌/◌, ◌<◌, ◌≤◌, eqb}
use mathlib.Core.Path.{refl, sym, ap, ◌∙◌, subst}
use mathlib.Core.{Bool.Bool, Bool.true, Bool.false, Bool.◌||◌, Bool.true≢false, List.List}
use native.Mathlib.Nat.{add-zero, zero-mul, one-mul, add-mul, mul-le-mul, mul-le-mul_right, le-div_iff_mul-le}
use native.Mathlib.{Nat.div-lt_iff_lt-mul, Omega.arith}
use borrow.Author.Tests.{ne_eqb, lt-ltb}
use Rattle.network.specs.declared.Edge.TheVariants.{Vertical}
use Rattle.network.specs.Edges.{Sides, horizontals, number_of}
use Rattle.network.proofs.Numbers.{at_number, number_lt}
use Rattle.contour_rules.specs.Picture.{Picture}
use Rattle.contour_rules.specs.Crossings.{on_border, edges_in, edge_of, enters_at}
use Rattle.contour_rules.specs.Contours.{swept, none_listed, all_listed, crossed_to}
use Rattle.contour_rules.proofs.Steps.{enters_border}
use Rattle.contour.specs.InnerDesk.{Desk, desk, Holds, Room, Grows, Sweeps, tried}
use Rattle.contour.proofs.Listings.{sweep_begins, sweep_goes_on, sweep_joins, sweep_skips, none_held}

neither : (a b : Bool) → a ≡ false → b ≡ false → (a || b) ≡ false
neither a b p q = rw (p, q)

-- where the edge is not on the border, no contour enters
inner : (g : Picture) → 2 ≤ g.nx → (n : ℕ) → n < edges_in g
    → on_border g.nx g.ny (edge_of g n) ≡ false → enters_at g n ≡ false
inner g k n l h = go (enters_at g n) refl
  where
    go : (b : Bool) → enters_at g n ≡ b → enters_at g n ≡ false
    go true e = absurd (true≢false (sym (enters_border g k n l e).1 ∙ h))
    go false e = e

-- rows between the south and the north one
pub inner_rows : (g : Picture) → 2 ≤ g.nx → (n : ℕ) → g.nx - 1 ≤ n → n < (g.ny - 1) * (g.nx - 1)
    → enters_at g n ≡ false
inner_rows g k n p q =
    let z : 0 < g.nx - 1 = omega arith in
    let less : (g.ny - 1) * (g.nx - 1) ≤ horizontals g.nx g.ny = mul-le-mul_right (g.nx - 1) (omega arith) in
    let one : 1 * (g.nx - 1) ≤ n = rw one-mul p in
    let low : 1 ≤ n / (g.nx - 1) = (le-div_iff_mul-le z).1 one in
    let high : n / (g.nx - 1) < g.ny - 1 = (div-lt_iff_lt-mul {k = g.nx - 1} {x = n} {y = g.ny - 1} z).1 q in
    inner g k n (omega (arith, less))
    (rw (lt-ltb n (horizontals g.nx g.ny) (omega (arith, less)))
    (neither (eqb (n / (g.nx - 1)) 0) (eqb (n / (g.nx - 1) + 1) g.ny)
    (ne_eqb (n / (g.nx - 1)) 0 (λ e. omega (arith, low, e)))
    (ne_eqb (n / (g.nx - 1) + 1) g.ny (λ e. omega (arith, high, e)))))

-- columns between the west and the east one
pub inner_columns : (g : Picture) → 2 ≤ g.nx → (row m : ℕ) → row + 1 < g.ny
    → number_of g.nx g.ny (Vertical row 0) < m
    → m < number_of g.nx g.ny (Vertical row 0) + (g.nx - 1) → enters_at g m ≡ false
inner_columns g k row m h p q =
    let col = m - number_of g.nx g.ny (Vertical row 0) in
    let e : number_of g.nx g.ny (Vertical row col) ≡ m = omega arith in
    let w : (row + 1 < g.ny) × (col < g.nx) = (h, omega arith) in
    let i : edge_of g m ≡ Vertical row col = ap (edge_of g) (sym e)
    ∙ at_number g.nx g.ny k (Vertical row col) w in
    inner g k m (subst (λ (j : ℕ). j < edges_in g) e (number_lt g.nx g.ny k (Vertical row col) w))
    (ap (on_border g.nx g.ny) i
    ∙ neither (eqb col 0) (eqb (col + 1) g.nx) (ne_eqb col 0 (λ z. omega arith))
    (ne_eqb (col + 1) g.nx (λ z. omega arith)))

-- ---- sweeps that pass over what is not on the border

-- bounds on the numbers of a row's edges
pub along_fits : {nx ny : ℕ} → Sides nx ny
    → (nx - 1 ≤ (ny - 1) * (nx - 1)) × (((ny - 1) * (nx - 1) ≤ ny * (nx - 1)) × (ny * (nx - 1) ≤ 65280))
along_fits {nx} {ny} d =
    let one : 1 * (nx - 1) ≤ (ny - 1) * (nx - 1) = mul-le-mul_right (nx - 1) (omega arith) in
    let h' : nx - 1 ≤ 255 = omega arith in
    (rw one-mul at one, (mul-le-mul_right (nx - 1) (omega arith), mul-le-mul d.low h'))

pub rows_swept : (g : Picture) → Sides g.nx g.ny → (d₀ d₁ d₂ : Desk)
    → Sweeps g false 0 (g.nx - 1) d₀ d₁
    → Sweeps g false ((g.ny - 1) * (g.nx - 1)) (g.ny * (g.nx - 1)) d₁ d₂
    → Sweeps g false 0 (number_of g.nx g.ny (Vertical 0 0)) d₀ d₂
rows_swept g s d₀ d₁ d₂ i j =
    let e : number_of g.nx g.ny (Vertical 0 0) ≡ g.ny * (g.nx - 1) = rw (zero-mul, add-zero, add-zero) in
    rw e (sweep_joins g false 0 ((g.ny - 1) * (g.nx - 1)) (g.ny * (g.nx - 1)) d₀ d₁ d₂
    (sweep_skips g 0 (g.nx - 1) ((g.ny - 1) * (g.nx - 1)) d₀ d₁ (along_fits s).0
    (λ m p q. inner_rows g s.wide m p q) i) j)

pub ends_swept : (g : Picture) → 2 ≤ g.nx → (row : ℕ) → row + 1 < g.ny → (d₀ d₁ d₂ : Desk)
    → Room g d₀ → Grows g (tried g false (g.ny * (g.nx - 1) + row * g.nx)) d₀ d₁
    → Grows g (tried g false (g.ny * (g.nx - 1) + row * g.nx + (g.nx - 1))) d₁ d₂
    → Sweeps g false (number_of g.nx g.ny (Vertical row 0))
    (number_of g.nx g.ny (Vertical (row + 1) 0)) d₀ d₂
ends_swept g k row h d₀ d₁ d₂ r i j =
    let w = g.ny * (g.nx - 1) + row * g.nx in
    let a : number_of g.nx g.ny (Vertical row 0) ≡ w = add-zero w in
    let m : (row + 1) * g.nx ≡ row * g.nx + g.nx = add-mul row 1 g.nx
    ∙ ap (λ (x : ℕ). row * g.nx + x) (one-mul g.nx) in
    let b : number_of g.nx g.ny (Vertical (row + 1) 0) ≡ w + (g.nx - 1) + 1 = omega (arith, m) in
    let first : Sweeps g false w (w + 1) d₀ d₁ =
    sweep_goes_on g false w w d₀ d₀ d₁ (sweep_begins g false w d₀ r) i in
    let across : Sweeps g false w (w + (g.nx - 1)) d₀ d₁ =
    sweep_skips g w (w + 1) (w + (g.nx - 1)) d₀ d₁ (omega arith)
    (λ n p q. inner_columns g k row n h (omega (arith, a)) (omega (arith, a))) first in
    rw (a, b) (sweep_goes_on g false w (w + (g.nx - 1)) d₀ d₁ d₂ across j)

pub all_swept : (g : Picture) (list edges' counts closed : List ℕ) (d₁ d₂ : Desk)
    → list ≡ crossed_to g (edges_in g) → Sweeps g false 0 (edges_in g) (desk list edges' counts closed 0 0) d₁
    → Sweeps g true 0 (edges_in g) d₁ d₂
    → Holds (all_listed g) (desk list edges' counts closed 0 0) d₂ × Room g d₂
unfolding swept
all_swept g list edges' counts closed d₁ d₂ h i j =
    (j.holds _ _ (i.holds (none_listed g) _ (none_held g list edges' counts closed h)), j.room)
