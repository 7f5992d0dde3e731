-- The sides and corners of a square by the levels. Assumes nothing.
use Rattle.std.specs.Prelude.{Option, Some, None}
use mathlib.Core.Path.{◌≡◌, refl, sym, ap, ◌∙◌}
use mathlib.Core.{Bool.Bool, Bool.true, Bool.false, Bool.cond, List.List}
use mathlib.Core.Logic.{◌⊎◌, inl, inr, ⊎_elim}
use Prim.Native.Nat.{ℕ, ◌+◌, ◌≤◌}
use native.Mathlib.{Nat.add-sub_cancel, Omega.arith}
use borrow.Author.Tests.{leb-true, leb-false, le-leb, lt-leb, lt-ltb, eq-eqb, ne_eqb}
use lib.Dec.{eqb}
use Rattle.network.specs.declared.Edge.{Edge}
use Rattle.network.specs.declared.Edge.TheVariants.{Horizontal, Vertical}
use Rattle.network.specs.{Edges.number_of, Edges.edge_at, Crossed.unlike}
use Rattle.network.proofs.{Numbers.at_number}
use Rattle.contour_rules.specs.declared.{Side.Side}
use Rattle.contour_rules.specs.declared.Side.TheVariants.{South, East, North, West}
use Rattle.contour_rules.specs.Crossings.{into}
use Rattle.contour_rules.specs.Picture.{Picture}
use Rattle.contour_rules.specs.Squares.{WithinSquare, turn, side_edge, corner}
use Rattle.contour_rules.specs.Crossings.{crossed, behind_of}
use Rattle.contour_rules.specs.Rule.{lines, HasEnd}
use Rattle.contour_rules.proofs.Heading.{side_within, side_crossed}
use Rattle.contour_rules.proofs.{Waiting.clash}
use Rattle.crossing_rules.specs.Step.{side_number, EndOf, HeadsIn, HeadsOut, Crossed}
use Rattle.crossing_rules.proofs.Passing.{Unlike}

-- ---- a square's sides

pub number_is : (nx ny row col : ℕ) (s : Side) → side_number nx ny row col s ≡ number_of nx ny (side_edge row col s)
number_is nx ny row col South = refl
number_is nx ny row col East = refl
number_is nx ny row col North = refl
number_is nx ny row col West = refl

pub ends_are : (row col row' col' : ℕ) (s : Side) → HasEnd (side_edge row col s) row' col' → EndOf row col s row' col'
ends_are row col row' col' South h = h
ends_are row col row' col' East h = h
ends_are row col row' col' North h = h
ends_are row col row' col' West h = h

-- which side of a square an edge is
abbrev which : (row col : ℕ) → Edge → Side
which row col (Horizontal row' col') = cond (eqb row' row) South North
which row col (Vertical row' col') = cond (eqb col' col) West East

which_is : (row col : ℕ) (s : Side) → which row col (side_edge row col s) ≡ s
which_is row col South = rw (eq-eqb row row refl)
which_is row col East = rw (ne_eqb (col + 1) col (λ h. omega arith))
which_is row col North = rw (ne_eqb (row + 1) row (λ h. omega arith))
which_is row col West = rw (eq-eqb col col refl)

-- what is unlike, either way round
one_of : (a b : Bool) → unlike a b ≡ true → ((a ≡ true) × (b ≡ false)) ⊎ ((a ≡ false) × (b ≡ true))
one_of true true h = clash h refl
one_of true false h = inl (refl, refl)
one_of false b h = inr (refl, h)

turned : {A B C D : Type 0} → (A × B) ⊎ (C × D) → (D × C) ⊎ (B × A)
turned h = ⊎_elim (λ t. inr (t.1, t.0)) (λ t. inl (t.1, t.0)) h

module _ (levels : List ℕ) (nx ny v : ℕ) (wide : 2 ≤ nx) where
  abbrev g : Picture
  g = lines levels nx ny v

  -- ---- the corners of a square by the levels

  module _ (row col : ℕ) where
    pub in_heading : (s : Side) → corner g row col s ≡ true → corner g row col (turn s) ≡ false
        → HeadsIn levels nx v row col s
    in_heading South l r = (leb-true _ _ l, leb-false _ _ r)
    in_heading East l r = (leb-true _ _ l, leb-false _ _ r)
    in_heading North l r = (leb-false _ _ r, leb-true _ _ l)
    in_heading West l r = (leb-false _ _ r, leb-true _ _ l)

    pub out_heading : (s : Side) → corner g row col s ≡ false → corner g row col (turn s) ≡ true
        → HeadsOut levels nx v row col s
    out_heading South l r = (leb-false _ _ l, leb-true _ _ r)
    out_heading East l r = (leb-false _ _ l, leb-true _ _ r)
    out_heading North l r = (leb-true _ _ r, leb-false _ _ l)
    out_heading West l r = (leb-true _ _ r, leb-false _ _ l)

    pub in_corners : (s : Side) → HeadsIn levels nx v row col s
        → (corner g row col s ≡ true) × (corner g row col (turn s) ≡ false)
    in_corners South h = (le-leb _ _ h.0, lt-leb _ _ h.1)
    in_corners East h = (le-leb _ _ h.0, lt-leb _ _ h.1)
    in_corners North h = (le-leb _ _ h.1, lt-leb _ _ h.0)
    in_corners West h = (le-leb _ _ h.1, lt-leb _ _ h.0)

    pub out_corners : (s : Side) → HeadsOut levels nx v row col s
        → (corner g row col s ≡ false) × (corner g row col (turn s) ≡ true)
    out_corners South h = (lt-leb _ _ h.0, le-leb _ _ h.1)
    out_corners East h = (lt-leb _ _ h.0, le-leb _ _ h.1)
    out_corners North h = (lt-leb _ _ h.1, le-leb _ _ h.0)
    out_corners West h = (lt-leb _ _ h.1, le-leb _ _ h.0)

    pub unlike_of : (t : Side) → Crossed levels nx ny v row col t → Unlike (corner g row col) t
    unlike_of t c = ⊎_elim (λ h. inl (in_corners t h)) (λ h. inr (out_corners t h)) c

    pub crossed_of : (t : Side) → Unlike (corner g row col) t → Crossed levels nx ny v row col t
    crossed_of t u = ⊎_elim (λ h. inl (in_heading t h.0 h.1)) (λ h. inr (out_heading t h.0 h.1)) u

    pub entered_crossed : (s : Side) → corner g row col s ≡ true → corner g row col (turn s) ≡ false
        → crossed g (side_edge row col s) ≡ true
    entered_crossed South l r = simp (l, r)
    entered_crossed East l r = simp (l, r)
    entered_crossed North l r = simp (l, r)
    entered_crossed West l r = simp (l, r)

    pub edge_crossed : (t : Side) → Unlike (corner g row col) t → crossed g (side_edge row col t) ≡ true
    edge_crossed t u = ⊎_elim (λ h. entered_crossed t h.0 h.1) (λ h. side_crossed g row col t h.0 h.1) u

    pub crossed_unlike : (t : Side) → crossed g (side_edge row col t) ≡ true → Unlike (corner g row col) t
    crossed_unlike South h = one_of (corner g row col South) (corner g row col East) h
    crossed_unlike East h = one_of (corner g row col East) (corner g row col North) h
    crossed_unlike North h = turned (one_of (corner g row col West) (corner g row col North) h)
    crossed_unlike West h = turned (one_of (corner g row col South) (corner g row col West) h)

    -- a side that heads out of the square comes from it
    pub behind_in : WithinSquare nx ny row col → (s : Side) → corner g row col s ≡ false
        → corner g row col (turn s) ≡ true → behind_of g (side_edge row col s) ≡ into row col s
    behind_in w South l r = simp (l, lt-ltb _ _ w.0)
    behind_in w East l r = simp (l, ne_eqb (col + 1) 0 (λ h. omega arith), add-sub_cancel)
    behind_in w North l r = simp (r, ne_eqb (row + 1) 0 (λ h. omega arith), add-sub_cancel)
    behind_in w West l r = simp (r, lt-ltb _ _ w.1)

    -- two sides with one number are one side
    pub sides_apart : WithinSquare nx ny row col → (s t : Side)
        → number_of nx ny (side_edge row col s) ≡ number_of nx ny (side_edge row col t) → s ≡ t
    sides_apart w s t e =
        let edge : side_edge row col s ≡ side_edge row col t =
        sym (at_number nx ny wide (side_edge row col s) (side_within nx ny row col s w))
        ∙ ap (edge_at nx ny) e ∙ at_number nx ny wide (side_edge row col t) (side_within nx ny row col t w) in
        sym (which_is row col s) ∙ ap (which row col) edge ∙ which_is row col t
