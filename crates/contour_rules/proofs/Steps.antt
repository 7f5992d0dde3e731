-- The same by the edges' numbers: where a crossed edge leads, and where it comes from. Assumes nothing.
use Rattle.std.specs.Prelude.{Some, None}
use mathlib.Core.Path.{◌≡◌, refl, sym, ap, ◌∙◌, subst}
use mathlib.Core.Bool.{Bool, true, false, not, ◌&&◌, not-not, true≢false}
use Prim.Native.Nat.{ℕ, ◌+◌, ◌≤◌, ◌<◌}
use native.Mathlib.{Nat.le_of_eq, Omega.arith}
use Rattle.network.specs.declared.Edge.{Edge}
use Rattle.network.specs.declared.Edge.TheVariants.{Horizontal, Vertical}
use Rattle.contour_rules.specs.Crossings.{Ahead}
use Rattle.network.specs.{Edges.number_of, Edges.WithinEdge, Crossed.unlike}
use Rattle.contour_rules.specs.{Picture.Picture, Squares.turn, Squares.corner, Squares.side_edge, Squares.exit_of}
use Rattle.contour_rules.specs.Crossings.{crossed, first_in, ahead_of, behind_of, Next, To, Out, through}
use Rattle.contour_rules.specs.Crossings.{next_of, is_outside, edges_in, edge_of, crossed_at, enters_at, next_number}
use Rattle.contour_rules.specs.{Crossings.next_at, Crossings.on_border, Once.Neighbours, Once.Border}
use Rattle.contour_rules.proofs.Heading.{Entered, entered, next_within, leaves_elsewhere, over_border}
use Rattle.contour_rules.proofs.Back.{reversed, behind_reversed, Leads, leads}
use Rattle.network.proofs.{Refusals.both, Numbers.edge_within, Numbers.number_lt, Numbers.at_number}
use Rattle.network.proofs.{Numbers.number_at_rule}

-- the edge that a crossed edge comes from; where it comes from outside, the number of edges
abbrev pub prev_at : Picture → ℕ → ℕ
prev_at g n = next_at (reversed g) n

pub leads_at : (g : Picture) → 2 ≤ g.nx → (n : ℕ) → n < edges_in g → crossed_at g n ≡ true
    → next_at g n < edges_in g → (crossed_at g (next_at g n) ≡ true) × (prev_at g (next_at g n) ≡ n)
leads_at g k n l x b = go (next_of g (edge_of g n)) refl b
  where
    go : (y : Next) → next_of g (edge_of g n) ≡ y → next_number g.nx g.ny y < edges_in g
        → (crossed_at g (next_number g.nx g.ny y) ≡ true) × (prev_at g (next_number g.nx g.ny y) ≡ n)
    go (To e) h b =
        let i : Leads g (edge_of g n) e = leads g (edge_of g n) (edge_within g.nx g.ny k n l) x e h in
        let a : edge_of g (number_of g.nx g.ny e) ≡ e = at_number g.nx g.ny k e i.within in (
          ap (crossed g) a ∙ i.crossing,
          ap (λ (e : Edge). next_number g.nx g.ny (next_of (reversed g) e)) a
              ∙ ap (next_number g.nx g.ny) i.returns ∙ number_at_rule g.nx g.ny k n l,
        )
    go Out h b = absurd (omega arith)

-- backwards and backwards again
reversed_twice : (g : Picture) → reversed (reversed g) ≡ g
reversed_twice g = λ i. record {
  nx = g.nx;
  ny = g.ny;
  inside =
      λ row col. not-not (g.inside row col) i;
  cut = λ row col. not-not (g.cut row col) i;
}

both_not_lem : (a b : Bool) → unlike (not a) (not b) ≡ unlike a b
both_not_lem true b = refl
both_not_lem false b = not-not b

reversed-crossed : (g : Picture) (e : Edge) → crossed (reversed g) e ≡ crossed g e
reversed-crossed g (Horizontal row col) = both_not_lem (g.inside row col) (g.inside row (col + 1))
reversed-crossed g (Vertical row col) = both_not_lem (g.inside row col) (g.inside (row + 1) col)

pub comes_at : (g : Picture) → 2 ≤ g.nx → (n : ℕ) → n < edges_in g → crossed_at g n ≡ true
    → prev_at g n < edges_in g → (crossed_at g (prev_at g n) ≡ true) × (next_at g (prev_at g n) ≡ n)
comes_at g k n l x b =
    let i = leads_at (reversed g) k n l (reversed-crossed g (edge_of g n) ∙ x) b in (
      sym (reversed-crossed g (edge_of g (prev_at g n)))
          ∙ i.0,
      ap (λ (h : Picture). next_at h (prev_at g n)) (sym (reversed_twice g)) ∙ i.1,
    )

-- an edge leads to one of the network, or its number is that of the edges
pub next_le : (g : Picture) → 2 ≤ g.nx → (n : ℕ) → n < edges_in g → next_at g n ≤ edges_in g
next_le g k n l = go (next_of g (edge_of g n)) refl
  where
    go : (y : Next) → next_of g (edge_of g n) ≡ y → next_number g.nx g.ny y ≤ edges_in g
    go (To e) h = omega (
      arith,
      number_lt g.nx g.ny k e (next_within g (edge_of g n) e (edge_within g.nx g.ny k n l) h),
    )
    go Out h = omega arith

-- a contour enters at a crossed edge that comes from outside
outside_out : (g : Picture) → 2 ≤ g.nx → (n : ℕ) → n < edges_in g → (a : Ahead)
    → ahead_of g (edge_of g n) ≡ a
    → (is_outside a ≡ true → edges_in g ≤ next_at g n) × (is_outside a ≡ false → next_at g n < edges_in g)
outside_out g k n l None h = (
  λ _. le_of_eq (sym (ap (λ (a : Ahead). next_number g.nx g.ny (through g a)) h)),
  λ q. absurd (true≢false q),
)
outside_out g k n l (Some a) h = (
  λ q. absurd (true≢false (sym q)),
  λ _.
      let t = side_edge a.row a.col (exit_of g a.row a.col a.side) in
      let e : next_of g (edge_of g n) ≡ To t = ap (through g) h in
      subst (λ (i : ℕ). i < edges_in g) (sym (ap (next_number g.nx g.ny) e))
      (number_lt g.nx g.ny k t (next_within g (edge_of g n) t (edge_within g.nx g.ny k n l) e)),
)

pub enters_outside : (g : Picture) → 2 ≤ g.nx → (n : ℕ) → n < edges_in g → enters_at g n ≡ true
    → edges_in g ≤ prev_at g n
enters_outside g k n l h =
    let e = edge_of g n in
    (outside_out (reversed g) k n l (behind_of g e) (behind_reversed g e)).0
    (both (crossed_at g n) (is_outside (behind_of g e)) h).1

pub inner_inside : (g : Picture) → 2 ≤ g.nx → (n : ℕ) → n < edges_in g → crossed_at g n ≡ true
    → enters_at g n ≡ false → prev_at g n < edges_in g
inner_inside g k n l x h =
    let e = edge_of g n in
    let q : is_outside (behind_of g e) ≡ false = sym (ap (λ (b : Bool). b && is_outside (behind_of g e)) x) ∙ h in
    (outside_out (reversed g) k n l (behind_of g e) (behind_reversed g e)).1 q

-- an edge and the one that it leads to are different sides of one square
pub neighbours_at : (g : Picture) → 2 ≤ g.nx → (n : ℕ) → n < edges_in g → next_at g n < edges_in g
    → Neighbours g n (next_at g n)
neighbours_at g k n l b =
    go (ahead_of g (edge_of g n)) refl (entered g (edge_of g n) (edge_within g.nx g.ny k n l)) b
  where
    go : (a : Ahead) → ahead_of g (edge_of g n) ≡ a → Entered g (edge_of g n) a
        → next_number g.nx g.ny (through g a) < edges_in g
        → Neighbours g n (next_number g.nx g.ny (through g a))
    go (Some a) h i b = record {
      row = a.row;
      col = a.col;
      side = a.side;
      side' = exit_of g a.row a.col a.side;
      within = i.within;
      first = sym (number_at_rule g.nx g.ny k n l) ∙ ap (number_of g.nx g.ny) i.edge;
      second = refl;
      differ = leaves_elsewhere (corner g a.row a.col (turn (turn a.side)))
          (corner g a.row a.col (turn (turn (turn a.side)))) (g.cut a.row a.col) a.side;
    }
    go None h i b = absurd (omega arith)

-- a line comes in and goes out over the border only
pub enters_border : (g : Picture) → 2 ≤ g.nx → (n : ℕ) → n < edges_in g → enters_at g n ≡ true
    → Border g n
enters_border g k n l h = (
  l,
  over_border g.nx g.ny (not (first_in g (edge_of g n))) (edge_of g n) (edge_within g.nx g.ny k n l)
      (both (crossed_at g n) (is_outside (behind_of g (edge_of g n))) h).1,
)

pub leaves_border : (g : Picture) → 2 ≤ g.nx → (n : ℕ) → n < edges_in g → next_at g n ≡ edges_in g
    → Border g n
leaves_border g k n l h = (l, go (is_outside (ahead_of g (edge_of g n))) refl)
  where
    w : WithinEdge g.nx g.ny (edge_of g n)
    w = edge_within g.nx g.ny k n l

    go : (b : Bool) → is_outside (ahead_of g (edge_of g n)) ≡ b → on_border g.nx g.ny (edge_of g n) ≡ true
    go true e = over_border g.nx g.ny (first_in g (edge_of g n)) (edge_of g n) w e
    go false e = absurd (omega (arith, (outside_out g k n l (ahead_of g (edge_of g n)) refl).1 e))
