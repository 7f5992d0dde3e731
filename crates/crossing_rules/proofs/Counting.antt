-- The crossed edges counted by their numbers are those counted along rows and columns. Assumes nothing.
use mathlib.Core.{Path.◌≡◌, Path.refl, Path.sym, Path.ap, Path.◌∙◌, Bool.Bool, Bool.true, Bool.false, List.List}
use Prim.Native.Nat.{ℕ, ◌+◌, ◌-◌, ◌*◌, ◌≤◌, ◌<◌}
use native.Mathlib.{Nat.add_assoc, Omega.arith}
use lib.Dec.{leb}
use Rattle.network.specs.declared.Edge.{Edge}
use Rattle.network.specs.declared.Edge.TheVariants.{Horizontal, Vertical}
use Rattle.network.specs.{Crossed.unlike, Numbering.point_level}
use Rattle.network.proofs.Numbers.{at_number}
use Rattle.contour_rules.specs.{Picture.Picture, Crossings.crossed, Crossings.crossed_at, Crossings.edges_in}
use Rattle.contour_rules.specs.{Contours.bit, Once.sum_to, Once.crossings, Rule.lines}
use Rattle.contour_rules.proofs.Sums.{sum_same, crossings_sum}
use Rattle.crossing_rules.specs.OneTime.{one_in, crossed_edges}
use Rattle.crossing_rules.proofs.Sums.{sum_then, sum_rows}

one_in_lem : (v a b : ℕ) → bit (unlike (leb v a) (leb v b)) ≡ one_in v a b
one_in_lem v a b = go (leb v a) (leb v b) refl refl
  where
    go : (s t : Bool) → leb v a ≡ s → leb v b ≡ t → bit (unlike (leb v a) (leb v b)) ≡ one_in v a b
    go true true p q = rw (p, q)
    go true false p q = rw (p, q)
    go false true p q = rw (p, q)
    go false false p q = rw (p, q)

module _ (levels : List ℕ) (nx ny v : ℕ) (wide : 2 ≤ nx) where
  abbrev g : Picture
  g = lines levels nx ny v

  abbrev level : ℕ → ℕ → ℕ
  level row col = point_level levels nx row col

  lying : (row col : ℕ) → row < ny → col < nx - 1
      → bit (crossed_at g (row * (nx - 1) + col)) ≡ one_in v (level row col) (level row (col + 1))
  lying row col h k =
      ap (λ (e : Edge). bit (crossed g e)) (at_number nx ny wide (Horizontal row col) (h, omega arith))
      ∙ one_in_lem v (level row col) (level row (col + 1))

  standing : (row col : ℕ) → row < ny - 1 → col < nx
      → bit (crossed_at g (ny * (nx - 1) + (row * nx + col))) ≡ one_in v (level row col) (level (row + 1) col)
  standing row col h k =
      ap (λ (n : ℕ). bit (crossed_at g n)) (sym (add_assoc (ny * (nx - 1)) (row * nx) col))
      ∙ ap (λ (e : Edge). bit (crossed g e)) (at_number nx ny wide (Vertical row col) (omega arith, k))
      ∙ one_in_lem v (level row col) (level (row + 1) col)

  pub counted : crossings g (edges_in g) ≡ crossed_edges levels nx ny v
  counted =
      let f : ℕ → ℕ = λ k. bit (crossed_at g k) in
      let h = ny * (nx - 1) in
      let rows : sum_to f h ≡ sum_to (λ row. sum_to (λ col. one_in v (level row col) (level row (col + 1))) (nx - 1))
      ny =
      sum_rows f ny (nx - 1)
      ∙ sum_same (λ row. sum_to (λ col. f (row * (nx - 1) + col)) (nx - 1))
      (λ row. sum_to (λ col. one_in v (level row col) (level row (col + 1))) (nx - 1)) ny
      (λ row l. sum_same (λ col. f (row * (nx - 1) + col)) (λ col. one_in v (level row col) (level row (col + 1)))
      (nx - 1) (λ col m. lying row col l m)) in
      let columns : sum_to (λ k. f (h + k)) ((ny - 1) * nx)
      ≡ sum_to (λ row. sum_to (λ col. one_in v (level row col) (level (row + 1) col)) nx) (ny - 1) =
      sum_rows (λ k. f (h + k)) (ny - 1) nx
      ∙ sum_same (λ row. sum_to (λ col. f (h + (row * nx + col))) nx)
      (λ row. sum_to (λ col. one_in v (level row col) (level (row + 1) col)) nx) (ny - 1)
      (λ row l. sum_same (λ col. f (h + (row * nx + col))) (λ col. one_in v (level row col) (level (row + 1) col)) nx
      (λ col m. standing row col l m)) in
      crossings_sum g (edges_in g) ∙ sum_then f h ((ny - 1) * nx) ∙ rw (rows, columns)
