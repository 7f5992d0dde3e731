-- Edges and their numbers, one to one. Assumes nothing.
use mathlib.Core.{Path.◌≡◌, Path.refl, Bool.Bool, Bool.true, Bool.false, Bool.cond}
use Rattle.std.specs.Prelude.{ℕ, ◌+◌, ◌-◌, ◌*◌, ◌/◌, ◌<◌, ◌≤◌}
use native.Mathlib.{Nat.mod-lt, Nat.div-lt_iff_lt-mul, Nat.div-add-mod', Nat.mul-le-mul, Omega.arith}
use borrow.Author.Tests.{lt-ltb, le-ltb, ltb-true, ltb-false}
use lib.{Arith.digits_lt, Arith.digits_div, Arith.digits_mod, Dec.ltb}
use Rattle.network.specs.declared.Edge.{Edge}
use Rattle.network.specs.declared.Edge.TheVariants.{Horizontal, Vertical}
use Rattle.network.specs.Limits.{max_side, max_edges}
use Rattle.network.specs.Edges.{Sides, horizontals, edges, number_of, edge_at, WithinEdge}

-- by which way a test went
pub by_cond : {X : Type 0} (P : X → Type 0) (b : Bool) (x y : X) → (b ≡ true → P x)
    → (b ≡ false → P y) → P (cond b x y)
by_cond P true x y f g = f refl
by_cond P false x y f g = g refl

less_one : (a b : ℕ) → a + 1 < b → a < b - 1
less_one a b h = omega arith

more_one : (a b : ℕ) → a < b - 1 → a + 1 < b
more_one a b h = omega arith

module _ (nx ny : ℕ) (wide : 2 ≤ nx) where
  pub number_lt : (e : Edge) → WithinEdge nx ny e → number_of nx ny e < edges nx ny
  number_lt (Horizontal row col) w = omega (arith, digits_lt w.0 (less_one col nx w.1))
  number_lt (Vertical row col) w = omega (arith, digits_lt (less_one row ny w.0) w.1)

  -- a number's quotient and remainder, in a row of k
  row_lt : (n k m : ℕ) → 0 < k → n < m * k → n / k < m
  row_lt n k m z h = (div-lt_iff_lt-mul {k = k} {x = n} {y = m} z).1 h

  pub edge_within : (n : ℕ) → n < edges nx ny → WithinEdge nx ny (edge_at nx ny n)
  edge_within n h =
      by_cond (WithinEdge nx ny) (ltb n (horizontals nx ny)) _ _
      (λ t. (row_lt n (nx - 1) ny (omega arith) (ltb-true _ _ t), more_one _ _ (mod-lt n (omega arith))))
      (λ f. (
        more_one _ _ (row_lt (n - horizontals nx ny) nx (ny - 1) (omega arith)
            (omega (arith, ltb-false n (horizontals nx ny) f))),
        mod-lt (n - horizontals nx ny) (omega arith),
      ))

  -- an edge found by its number
  pub found_within : (n : ℕ) {e : Edge} → n < edges nx ny → e ≡ edge_at nx ny n → WithinEdge nx ny e
  found_within n h q = rw q (edge_within n h)

  pub at_number : (e : Edge) → WithinEdge nx ny e → edge_at nx ny (number_of nx ny e) ≡ e
  at_number (Horizontal row col) w =
      simp (
        lt-ltb _ _ (digits_lt w.0 (less_one col nx w.1)),
        digits_div row (less_one col nx w.1),
        digits_mod row (less_one col nx w.1),
      )
  at_number (Vertical row col) w =
      let k : horizontals nx ny + row * nx + col - horizontals nx ny ≡ row * nx + col = omega arith in
      let f : ltb (horizontals nx ny + row * nx + col) (horizontals nx ny) ≡ _ =
      le-ltb (horizontals nx ny + row * nx + col) (horizontals nx ny) (omega arith) in
      simp (f, k, digits_div row w.1, digits_mod row w.1)

  pub number_at_rule : (n : ℕ) → n < edges nx ny → number_of nx ny (edge_at nx ny n) ≡ n
  number_at_rule n h =
      by_cond (λ e. number_of nx ny e ≡ n) (ltb n (horizontals nx ny)) _ _
      (λ t. div-add-mod' n (nx - 1))
      (λ f. omega (arith, ltb-false n (horizontals nx ny) f, div-add-mod' (n - horizontals nx ny) nx))

-- a network has at most 130,560 edges
pub edges_le : (nx ny : ℕ) → nx ≤ max_side → ny ≤ max_side → edges nx ny ≤ max_edges
edges_le nx ny h k =
    let h' : nx - 1 ≤ 255 = omega arith in
    let k' : ny - 1 ≤ 255 = omega arith in
    omega (arith, mul-le-mul k h', mul-le-mul k' h)

pub number_small : {nx ny : ℕ} (e : Edge) → Sides nx ny → WithinEdge nx ny e → number_of nx ny e < max_edges
number_small {nx} {ny} e s w = omega (arith, number_lt nx ny s.wide e w, edges_le nx ny s.narrow s.low)
