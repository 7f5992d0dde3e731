-- The edge that a crossed edge leads to is crossed, and leads back when the lines are walked backwards: so no two
-- crossed edges lead to the same one. Assumes nothing.
use Rattle.std.specs.Prelude.{Some, None}
use mathlib.Core.Path.{◌≡◌, refl, sym, ap, ◌∙◌, subst}
use mathlib.Core.Bool.{Bool, true, false, not}
use Prim.Native.Nat.{ℕ}
use native.Mathlib.Omega.{arith}
use Rattle.network.specs.declared.Edge.{Edge}
use Rattle.network.specs.declared.Edge.TheVariants.{Horizontal, Vertical}
use Rattle.contour_rules.specs.declared.Side.{Side}
use Rattle.contour_rules.specs.Crossings.{Ahead}
use Rattle.contour_rules.specs.declared.Side.TheVariants.{South, East, North, West}
use Rattle.contour_rules.specs.Crossings.{into}
use Rattle.network.specs.Edges.{WithinEdge}
use Rattle.contour_rules.specs.Picture.{Picture}
use Rattle.contour_rules.specs.Squares.{turn, side_edge, corner, exit_side, exit_of}
use Rattle.contour_rules.specs.Crossings.{beyond, crossed, ahead_of, behind_of, To, through, next_of}
use Rattle.contour_rules.proofs.Heading.{Entry, Entered, entered, side_within, heads_in, heads_out}
use Rattle.contour_rules.proofs.Heading.{side_crossed}

pub four_turns : (s : Side) → turn (turn (turn (turn s))) ≡ s
four_turns South = refl
four_turns East = refl
four_turns North = refl
four_turns West = refl

-- ---- in a square whose corners are `k`, with the corner on the left of the side entered in, and the one on its
-- right out

abbrev exit : (Side → Bool) → Bool → Side → Side
exit k cut s = exit_side (k (turn (turn s))) (k (turn (turn (turn s)))) cut s

module _ (k : Side → Bool) (s : Side) (left : k s ≡ true) (right : k (turn s) ≡ false) where
  -- the side left has the out corner on the left and the in corner on the right, seen from inside the square
  leaves : (cut : Bool) → (k (exit k cut s) ≡ false) × (k (turn (exit k cut s)) ≡ true)
  leaves cut = go (k (turn (turn s))) (k (turn (turn (turn s)))) cut refl refl
    where
      go : (a b t : Bool) → k (turn (turn s)) ≡ a → k (turn (turn (turn s))) ≡ b
          → (k (exit_side a b t s) ≡ false) × (k (turn (exit_side a b t s)) ≡ true)
      go true true t p q = (right, p)
      go false true t p q = (p, q)
      go false false t p q = (q, rw four_turns left)
      go true false true p q = (right, p)
      go true false false p q = (q, rw four_turns left)

  -- and backwards it leads to the side entered
  back : (cut : Bool) → exit (λ t. not (k t)) (not cut) (exit k cut s) ≡ s
  back cut = go (k (turn (turn s))) (k (turn (turn (turn s)))) cut refl refl
    where
      go : (a b t : Bool) → k (turn (turn s)) ≡ a → k (turn (turn (turn s))) ≡ b
          → exit (λ t. not (k t)) (not t) (exit_side a b t s) ≡ s
      go true true t p q = simp (four_turns, left, q)
      go false true t p q = simp (four_turns, left, right)
      go false false t p q = simp (four_turns, right, p)
      go true false true p q = simp (four_turns, left, q)
      go true false false p q = simp (four_turns, right, p)

-- ---- in a picture

-- the same lines walked backwards: in and out change places, and with them the corners that a saddle cuts off
abbrev pub reversed : Picture → Picture
reversed g = record {
  nx = g.nx;
  ny = g.ny;
  inside = λ row col. not (g.inside row col);
  cut =
      λ row col. not (g.cut row col);
}

reversed-corner : (g : Picture) (row col : ℕ) (s : Side)
    → corner (reversed g) row col s ≡ not (corner g row col s)
reversed-corner g row col South = refl
reversed-corner g row col East = refl
reversed-corner g row col North = refl
reversed-corner g row col West = refl

never : ◌≡◌ {A = ℕ} 0 1 → ⊥
never h = omega arith

-- what lies behind is what lies ahead backwards
pub behind_reversed : (g : Picture) (e : Edge) → ahead_of (reversed g) e ≡ behind_of g e
behind_reversed g (Horizontal row col) = refl
behind_reversed g (Vertical row col) = refl

-- what is known of the edge that `e` leads to
pub record Leads (g : Picture) (e e' : Edge) : Type 0 where
  pub within : WithinEdge g.nx g.ny e'
  pub crossing : crossed g e' ≡ true
  pub returns : next_of (reversed g) e' ≡ To e

module _ (g : Picture) (e : Edge) (w : WithinEdge g.nx g.ny e) (x : crossed g e ≡ true) where
  through_square : (row col : ℕ) (s : Side) → Entry g e row col s
      → Leads g e (side_edge row col (exit_of g row col s))
  through_square row col s i =
      let t = exit_of g row col s in
      let k : corner g row col t ≡ false × corner g row col (turn t) ≡ true =
      leaves (corner g row col) s (i.left x) (i.right x) (g.cut row col) in
      let ahead : ahead_of (reversed g) (side_edge row col t) ≡ into row col t =
      heads_in (reversed g) row col t i.within (reversed-corner g row col t ∙ ap not k.0)
      (reversed-corner g row col (turn t) ∙ ap not k.1) in
      let again : exit_of (reversed g) row col t ≡ s =
      simp reversed-corner (back (corner g row col) s (i.left x) (i.right x) (g.cut row col)) in
      record {
        within = side_within g.nx g.ny row col t i.within;
        crossing = side_crossed g row col t k.0 k.1;
        returns = ap (through (reversed g)) ahead ∙ ap (λ (s : Side). To (side_edge row col s)) again
            ∙ ap To (sym i.edge);
      }

  pub leads : (e' : Edge) → next_of g e ≡ To e' → Leads g e e'
  leads e' h = go (ahead_of g e) (entered g e w) h
    where
      go : (a : Ahead) → Entered g e a → through g a ≡ To e' → Leads g e e'
      go (Some a) i h = let q : side_edge a.row a.col (exit_of g a.row a.col a.side) ≡ e' = cc in
          subst (Leads g e) q (through_square a.row a.col a.side i)
      go None i h = absurd (never (cc))

  -- and the line goes on beyond the side by which it leaves
  pub goes_beyond : (row col : ℕ) (s : Side) → ahead_of g e ≡ into row col s
      → ahead_of g (side_edge row col (exit_of g row col s)) ≡ beyond g.nx g.ny row col (exit_of g row col s)
  goes_beyond row col s h =
      let i : Entry g e row col s = subst (Entered g e) h (entered g e w) in
      let k : corner g row col (exit_of g row col s) ≡ false × corner g row col (turn (exit_of g row col s))
      ≡ true = leaves (corner g row col) s (i.left x) (i.right x) (g.cut row col) in
      heads_out g row col (exit_of g row col s) k.0 k.1

-- no two crossed edges lead to the same one
pub next_injective : (g : Picture) (e₁ e₂ e' : Edge) → WithinEdge g.nx g.ny e₁
    → WithinEdge g.nx g.ny e₂ → crossed g e₁ ≡ true → crossed g e₂ ≡ true
    → next_of g e₁ ≡ To e' → next_of g e₂ ≡ To e' → e₁ ≡ e₂
next_injective g e₁ e₂ e' w₁ w₂ x₁ x₂ h₁ h₂ =
    let p : next_of (reversed g) e' ≡ To e₁ = (leads g e₁ w₁ x₁ e' h₁).returns in
    let q : next_of (reversed g) e' ≡ To e₂ = (leads g e₂ w₂ x₂ e' h₂).returns in
    cc
