-- Rows of edges and their numbers, and a waiting list filled one edge at a time. Assumes nothing.
use mathlib.Core.{Path.◌≡◌, Path.sym, Path.ap, Path.◌∙◌, Path.subst, Bool.Bool, Bool.true, Bool.false}
use Rattle.std.specs.Prelude.{ℕ, ◌+◌, ◌-◌, ◌*◌, ◌<◌, ◌≤◌, List, ◌++◌}
use mathlib.Core.List.{append-nil}
use native.Mathlib.{Nat.add-zero, Omega.arith}
use lib.{ListN.length, ListN.drop, ListN.set, ListN.length-append, ListN.length-drop, Seq.drop-length}
use Rattle.network.specs.Edges.{number_of, WithinEdge}
use Rattle.network.proofs.Numbers.{at_number, number_lt}
use Rattle.contour_rules.specs.Picture.{Picture}
use Rattle.contour_rules.specs.Crossings.{crossed, edges_in, edge_of, crossed_at}
use Rattle.contour_rules.specs.Contours.{bit, crossed_to}
use Rattle.contour_rules.proofs.Waiting.{length_crossed}
use Rattle.contour.specs.InnerFill.{edge_in, row_width, row_count, Fills}
use Rattle.contour.proofs.Buffers.{crossed_none, crossed_more}

pub row_within : (up : Bool) (nx ny row col : ℕ) → row < row_count up ny → col < row_width up nx
    → WithinEdge nx ny (edge_in up row col)
row_within true nx ny row col h k = (omega arith, k)
row_within false nx ny row col h k = (h, omega arith)

pub row_number : (up : Bool) (nx ny row col : ℕ)
    → number_of nx ny (edge_in up row col) ≡ number_of nx ny (edge_in up row 0) + col
row_number true nx ny row col = omega arith
row_number false nx ny row col = omega arith

-- the edge of a number along a row, and whether it is crossed
pub row_crossed : (g : Picture) → 2 ≤ g.nx → (up : Bool) (row col n : ℕ) → row < row_count up g.ny
    → col < row_width up g.nx → n ≡ number_of g.nx g.ny (edge_in up row 0) + col
    → (crossed_at g n ≡ crossed g (edge_in up row col)) × (n < edges_in g)
row_crossed g k up row col n h l e =
    let w = row_within up g.nx g.ny row col h l in
    let i : n ≡ number_of g.nx g.ny (edge_in up row col) = e ∙ sym (row_number up g.nx g.ny row col) in (
      ap (crossed g) (ap (edge_of g) i ∙ at_number g.nx g.ny k (edge_in up row col) w),
      subst (λ (j : ℕ). j < edges_in g) (sym i) (number_lt g.nx g.ny k (edge_in up row col) w),
    )

pub fills_more : (g : Picture) (first col : ℕ) (list₀ list : List ℕ) (x : ℕ)
    → Fills g first (first + col) list₀ list → first + col < length list → x ≡ bit (crossed_at g (first + col))
    → Fills g first (first + (col + 1)) list₀ (set list (first + col) x)
fills_more g first col list₀ list x i h e = λ d k.
    let n = first + col in
    let f : list ≡ crossed_to g n ++ drop n d = i d k in
    let m : length list ≡ n + (length d - n) = ap length f ∙ length-append (crossed_to g n) (drop n d)
    ∙ ap (λ (j : ℕ). j + length (drop n d)) (length_crossed g n)
    ∙ ap (λ (j : ℕ). n + j) (length-drop n d) in
    let a : first + (col + 1) ≡ n + 1 = omega arith in
    rw (a, f) (crossed_more g d n x (omega (arith, m)) e)

pub fills_all : (g : Picture) (l₀ l₁ l₂ : List ℕ) → length l₀ ≡ edges_in g
    → Fills g 0 (number_of g.nx g.ny (edge_in false (row_count false g.ny) 0)) l₀ l₁
    → Fills g (g.ny * (g.nx - 1)) (number_of g.nx g.ny (edge_in true (row_count true g.ny) 0)) l₁ l₂
    → l₂ ≡ crossed_to g (edges_in g)
fills_all g l₀ l₁ l₂ h i j =
    let a : number_of g.nx g.ny (edge_in false (row_count false g.ny) 0) ≡ g.ny * (g.nx - 1) =
    add-zero (g.ny * (g.nx - 1)) in
    let b : number_of g.nx g.ny (edge_in true (row_count true g.ny) 0) ≡ edges_in g = add-zero (edges_in g) in
    let f = j l₀ (subst (λ (n : ℕ). l₁ ≡ crossed_to g n ++ drop n l₀) a (i l₀ (crossed_none g l₀))) in
    subst (λ (n : ℕ). l₂ ≡ crossed_to g n ++ drop n l₀) b f
    ∙ ap (λ (x : List ℕ). crossed_to g (edges_in g) ++ x) (ap (λ (n : ℕ). drop n l₀) (sym h)
    ∙ drop-length l₀) ∙ append-nil (crossed_to g (edges_in g))
