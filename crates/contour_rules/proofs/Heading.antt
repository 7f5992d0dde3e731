-- What a crossing heads into: a square of the network that has the edge as the side by which it is entered, with
-- the in corner on the left. Assumes nothing.
use Rattle.std.specs.Prelude.{Some, None}
use mathlib.Core.Path.{◌≡◌, refl, sym, ap, subst}
use mathlib.Core.Bool.{Bool, true, false, ◌||◌, cond, true≢false}
use Prim.Native.Nat.{ℕ, ◌+◌, ◌-◌, ◌<◌}
use native.Mathlib.{Nat.add-sub_cancel, Omega.arith}
use borrow.Author.Tests.{ltb-true, ltb-false, eqb-false, lt-ltb, eq-eqb, ne_eqb}
use lib.Dec.{ltb, eqb}
use Rattle.network.specs.declared.Edge.{Edge}
use Rattle.network.specs.declared.Edge.TheVariants.{Horizontal, Vertical}
use Rattle.contour_rules.specs.declared.Side.{Side}
use Rattle.contour_rules.specs.Crossings.{Ahead}
use Rattle.contour_rules.specs.declared.Side.TheVariants.{South, East, North, West}
use Rattle.contour_rules.specs.Crossings.{into}
use Rattle.network.specs.{Edges.WithinEdge, Crossed.unlike}
use Rattle.network.proofs.Numbers.{by_cond}
use Rattle.contour_rules.specs.Picture.{Picture}
use Rattle.contour_rules.specs.Squares.{WithinSquare, turn, side_edge, corner, exit_side, exit_of}
use Rattle.contour_rules.specs.Crossings.{beyond, crossed, across_of, ahead_of, To, through, next_of}
use Rattle.contour_rules.specs.Crossings.{is_outside, on_border}

-- ---- the square that a crossing heads into

-- it is in the network, has the edge as the side by which it is entered, and the corner on the left is in and the
-- one on the right out
pub record Entry (g : Picture) (e : Edge) (row col : ℕ) (s : Side) : Type 0 where
  pub edge : e ≡ side_edge row col s
  pub within : WithinSquare g.nx g.ny row col
  pub left : crossed g e ≡ true → corner g row col s ≡ true
  pub right : crossed g e ≡ true → corner g row col (turn s) ≡ false

abbrev pub Entered : Picture → Edge → Ahead → Type 0
Entered g e (Some a) = Entry g e a.row a.col a.side
Entered g e None = Unit {0}

back_one : (n : ℕ) → (n ≡ 0 → ⊥) → n ≡ n - 1 + 1
back_one n h = omega arith

other_out : (a b : Bool) → a ≡ true → unlike a b ≡ true → b ≡ false
other_out true true p h = sym h
other_out true false p h = refl
other_out false b p h = absurd (true≢false (sym p))

other_in : (a b : Bool) → a ≡ false → unlike a b ≡ true → b ≡ true
other_in false b p h = h
other_in true b p h = absurd (true≢false p)

pub entered : (g : Picture) (e : Edge) → WithinEdge g.nx g.ny e → Entered g e (ahead_of g e)
entered g (Horizontal row col) w =
    by_cond (Entered g (Horizontal row col)) (g.inside row col) _ _
    (λ i. by_cond (Entered g (Horizontal row col)) (ltb (row + 1) g.ny) _ _
    (λ h. record { edge = refl; within = (ltb-true _ _ h, w.1); left = λ _. i; right = λ x. other_out _ _ i x })
    (λ _. tt))
    (λ o. by_cond (Entered g (Horizontal row col)) (eqb row 0) _ _ (λ _. tt)
    (λ h. let k = back_one row (eqb-false _ _ h) in
    record {
      edge = ap (λ (n : ℕ). Horizontal n col) k;
      within = (subst (λ (n : ℕ). n < g.ny) k w.0, w.1);
      left = λ x. subst (λ (n : ℕ). g.inside n (col + 1) ≡ true) k (other_in _ _ o x);
      right = λ x. subst (λ (n : ℕ). g.inside n col ≡ false) k o;
    }))
entered g (Vertical row col) w =
    by_cond (Entered g (Vertical row col)) (g.inside row col) _ _
    (λ i. by_cond (Entered g (Vertical row col)) (eqb col 0) _ _ (λ _. tt)
    (λ h. let k = back_one col (eqb-false _ _ h) in
    record {
      edge = ap (λ (n : ℕ). Vertical row n) k;
      within = (w.0, subst (λ (n : ℕ). n < g.nx) k w.1);
      left = λ x. subst (λ (n : ℕ). g.inside row n ≡ true) k i;
      right = λ x. subst (λ (n : ℕ). g.inside (row + 1) n ≡ false) k (other_out _ _ i x);
    }))
    (λ o. by_cond (Entered g (Vertical row col)) (ltb (col + 1) g.nx) _ _
    (λ h. record { edge = refl; within = (w.0, ltb-true _ _ h); left = λ x. other_in _ _ o x; right = λ _. o })
    (λ _. tt))

-- ---- a side of a square

pub side_within : (nx ny row col : ℕ) (s : Side) → WithinSquare nx ny row col
    → WithinEdge nx ny (side_edge row col s)
side_within nx ny row col South w = (omega (arith, w.0), w.1)
side_within nx ny row col East w = w
side_within nx ny row col North w = w
side_within nx ny row col West w = (w.0, omega (arith, w.1))

-- a side with the corner on the left in, and the one on the right out, heads into the square
pub heads_in : (g : Picture) (row col : ℕ) (s : Side) → WithinSquare g.nx g.ny row col
    → corner g row col s ≡ true → corner g row col (turn s) ≡ false
    → ahead_of g (side_edge row col s) ≡ into row col s
heads_in g row col South w l r = simp (l, lt-ltb _ _ w.0)
heads_in g row col East w l r = simp (l, ne_eqb (col + 1) 0 (λ h. omega arith), add-sub_cancel)
heads_in g row col North w l r = simp (r, ne_eqb (row + 1) 0 (λ h. omega arith), add-sub_cancel)
heads_in g row col West w l r = simp (r, lt-ltb _ _ w.1)

-- a side with the corner on the left out, and the one on the right in, heads out of the square
pub heads_out : (g : Picture) (row col : ℕ) (s : Side) → corner g row col s ≡ false
    → corner g row col (turn s) ≡ true → ahead_of g (side_edge row col s) ≡ beyond g.nx g.ny row col s
heads_out g row col South l r = simp l
heads_out g row col East l r = simp l
heads_out g row col North l r = simp r
heads_out g row col West l r = simp r

-- a side with unlike corners is crossed
pub side_crossed : (g : Picture) (row col : ℕ) (s : Side) → corner g row col s ≡ false
    → corner g row col (turn s) ≡ true → crossed g (side_edge row col s) ≡ true
side_crossed g row col South l r = simp (l, r)
side_crossed g row col East l r = simp (l, r)
side_crossed g row col North l r = simp (l, r)
side_crossed g row col West l r = simp (l, r)

-- ---- the edge that an edge leads to is in the network

never : ◌≡◌ {A = ℕ} 0 1 → ⊥
never h = omega arith

pub next_within : (g : Picture) (e e' : Edge) → WithinEdge g.nx g.ny e → next_of g e ≡ To e'
    → WithinEdge g.nx g.ny e'
next_within g e e' w h = go (ahead_of g e) (entered g e w) h
  where
    go : (a : Ahead) → Entered g e a → through g a ≡ To e' → WithinEdge g.nx g.ny e'
    go (Some a) i h =
        let q : side_edge a.row a.col (exit_of g a.row a.col a.side) ≡ e' = cc in
        subst (WithinEdge g.nx g.ny) q (side_within g.nx g.ny a.row a.col (exit_of g a.row a.col a.side) i.within)
    go None i h = absurd (never (cc))

-- ---- the sides by which a line enters and leaves a square differ

turned : (s : Side) → s ≡ turn s → ⊥
turned South h = never (cc)
turned East h = never (cc)
turned North h = never (cc)
turned West h = never (cc)

opposite : (s : Side) → s ≡ turn (turn s) → ⊥
opposite South h = never (cc)
opposite East h = never (cc)
opposite North h = never (cc)
opposite West h = never (cc)

turned_back_lem : (s : Side) → s ≡ turn (turn (turn s)) → ⊥
turned_back_lem South h = never (cc)
turned_back_lem East h = never (cc)
turned_back_lem North h = never (cc)
turned_back_lem West h = never (cc)

pub leaves_elsewhere : (right left cut : Bool) (s : Side) → s ≡ exit_side right left cut s → ⊥
leaves_elsewhere true true cut s h = turned s h
leaves_elsewhere false true cut s h = opposite s h
leaves_elsewhere false false cut s h = turned_back_lem s h
leaves_elsewhere true false true s h = turned s h
leaves_elsewhere true false false s h = turned_back_lem s h

-- ---- only over the border does a line come in or go out

or-true : (a b : Bool) → b ≡ true → (a || b) ≡ true
or-true true b h = refl
or-true false b h = h

-- a step out of the network, by which way its test went
out_else : (row col : ℕ) (s : Side) (b : Bool) → is_outside (cond b (into row col s) None) ≡ true
    → b ≡ false
out_else row col s true h = absurd (true≢false (sym h))
out_else row col s false h = refl

out_then : (row col : ℕ) (s : Side) (b : Bool) → is_outside (cond b None (into row col s)) ≡ true
    → b ≡ true
out_then row col s true h = refl
out_then row col s false h = absurd (true≢false (sym h))

pub over_border : (nx ny : ℕ) (left : Bool) (e : Edge) → WithinEdge nx ny e
    → is_outside (across_of nx ny left e) ≡ true → on_border nx ny e ≡ true
over_border nx ny true (Horizontal row col) w h =
    or-true (eqb row 0) (eqb (row + 1) ny)
    (eq-eqb (row + 1) ny (omega (arith, w.0, ltb-false (row + 1) ny (out_else row col South (ltb (row + 1) ny) h))))
over_border nx ny false (Horizontal row col) w h = rw (out_then (row - 1) col North (eqb row 0) h)
over_border nx ny true (Vertical row col) w h = rw (out_then row (col - 1) East (eqb col 0) h)
over_border nx ny false (Vertical row col) w h =
    or-true (eqb col 0) (eqb (col + 1) nx)
    (eq-eqb (col + 1) nx (omega (arith, w.1, ltb-false (col + 1) nx (out_else row col West (ltb (col + 1) nx) h))))
