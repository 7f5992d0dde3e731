-- The rule's step, and a way in or out over the border, is where the edge leads. Assumes nothing.
use Rattle.std.specs.Prelude.{Option, Some, None}
use mathlib.Core.Path.{◌≡◌, refl, sym, ap, ◌∙◌, subst}
use mathlib.Core.{Bool.Bool, Bool.true, Bool.false, Bool.cond, List.List}
use mathlib.Core.Logic.{◌⊎◌, inl, inr, ⊎_elim}
use Prim.Native.Nat.{ℕ, ◌+◌, ◌*◌, ◌≤◌, ◌<◌}
use native.Mathlib.Omega.{arith}
use borrow.Author.Tests.{le-leb, lt-leb, le-ltb, eq-eqb}
use Rattle.network.specs.declared.Edge.{Edge}
use Rattle.network.specs.{Edges.number_of, Edges.WithinEdge}
use Rattle.network.proofs.Numbers.{number_lt, at_number}
use Rattle.contour_rules.specs.declared.Side.{Side}
use Rattle.contour_rules.specs.Crossings.{Ahead}
use Rattle.contour_rules.specs.declared.Side.TheVariants.{South, East, North, West}
use Rattle.contour_rules.specs.Crossings.{into}
use Rattle.contour_rules.specs.{Picture.Picture, Picture.cut_of, Squares.turn, Squares.side_edge, Squares.corner}
use Rattle.contour_rules.specs.Squares.{exit_of}
use Rattle.contour_rules.specs.Crossings.{ahead_of, beyond, through, next_of, next_number, edges_in, enters_at}
use Rattle.contour_rules.specs.{Crossings.next_at, Rule.lines, Rule.Entering, Rule.FollowsRule}
use Rattle.contour_rules.specs.Once.{Follows, Enters, Exits}
use Rattle.contour_rules.proofs.{Heading.side_within, Heading.heads_in, Heading.heads_out, Waiting.clash}
use Rattle.contour_rules.proofs.{Following.follows_rule, Steps.enters_border, Steps.leaves_border}
use Rattle.crossing_rules.specs.Step.{In, Out, side_number, EndOf, OnBorder, HeadsIn, corners_of}
use Rattle.crossing_rules.specs.Step.{Crossed, CutOff, Step, ComesIn, GoesOut}
use Rattle.crossing_rules.proofs.Passing.{around}
use Rattle.crossing_rules.proofs.Corners.{number_is, in_corners, out_corners, unlike_of, crossed_of}
use Rattle.crossing_rules.proofs.Corners.{entered_crossed, crossed_unlike}

-- ---- the corner in which the side entered and the side left meet

module _ (levels : List ℕ) (nx v row col row' col' : ℕ) where
  right_out : (s : Side) → HeadsIn levels nx v row col s → EndOf row col s row' col'
      → EndOf row col (turn s) row' col' → Out levels nx v row' col'
  right_out South h a b = rw (a.0, b.1) h.1
  right_out East h a b = rw (b.0, a.1) h.1
  right_out North h a b = rw (a.0, b.1) h.0
  right_out West h a b = rw (b.0, a.1) h.0

  left_in : (s : Side) → HeadsIn levels nx v row col s → EndOf row col s row' col'
      → EndOf row col (turn (turn (turn s))) row' col' → In levels nx v row' col'
  left_in South h a b = rw (a.0, b.1) h.0
  left_in East h a b = rw (b.0, a.1) h.0
  left_in North h a b = rw (a.0, b.1) h.1
  left_in West h a b = rw (b.0, a.1) h.1

module _ (levels : List ℕ) (nx ny v : ℕ) (wide : 2 ≤ nx) where
  abbrev g : Picture
  g = lines levels nx ny v

  rule : FollowsRule levels nx ny v
  rule = follows_rule levels nx ny v wide

  -- ---- the rule's step is where the edge leads

  module _ (n m : ℕ) (s : Step levels nx ny v n m) where
    abbrev row : ℕ
    row = s.row

    abbrev col : ℕ
    col = s.col

    abbrev k : Side → Bool
    k = corner g row col

    ins : (k s.side ≡ true) × (k (turn s.side) ≡ false)
    ins = in_corners levels nx ny v wide row col s.side s.enters

    outs : (k s.side' ≡ false) × (k (turn s.side') ≡ true)
    outs = out_corners levels nx ny v wide row col s.side' s.leaves

    heads : ahead_of g (side_edge row col s.side) ≡ into row col s.side
    heads = heads_in g row col s.side s.within ins.0 ins.1

    entering : Entering levels nx ny v row col s.side
    entering = record {
      within = s.within;
      crossing = entered_crossed levels nx ny v wide row col s.side ins.0 ins.1;
      heads = heads;
    }

    abbrev Leads : Type 0
    Leads = next_at g (number_of nx ny (side_edge row col s.side)) ≡ number_of nx ny (side_edge row col s.side')

    two : ((t : Side) → Crossed levels nx ny v row col t → (t ≡ s.side) ⊎ (t ≡ s.side')) → Leads
    two only = rule.two row col s.side s.side' entering
        (λ t c. only t (crossed_of levels nx ny v wide row col t (crossed_unlike levels nx ny v wide row col t c)))

    next_side_rule : next_at g (number_of nx ny (side_edge row col s.side))
        ≡ number_of nx ny (side_edge row col (exit_of g row col s.side))
    next_side_rule =
        ap (λ (e : Edge). next_number nx ny (next_of g e)) (at_number nx ny wide (side_edge row col s.side)
        (side_within nx ny row col s.side s.within))
        ∙ ap (λ (a : Ahead). next_number nx ny (through g a)) heads

    four : ((t : Side) → Crossed levels nx ny v row col t) → CutOff levels nx ny v row col s.side s.side' → Leads
    four all c =
        next_side_rule ∙ ap (λ (t : Side). number_of nx ny (side_edge row col t))
        (⊎_elim right left (around (λ t. k t ≡ false → (t ≡ turn s.side) ⊎ (t ≡ turn (turn (turn s.side))))
        s.side (λ h. clash ins.0 h) (λ _. inl refl) (λ h. clash far_right h) (λ _. inr refl) s.side'
        outs.0))
      where
        far_right : k (turn (turn s.side)) ≡ true
        far_right = ⊎_elim (λ u. clash u.0 ins.1) (λ u. u.1)
            (unlike_of levels nx ny v wide row col (turn s.side) (all (turn s.side)))

        far_left : k (turn (turn (turn s.side))) ≡ false
        far_left = ⊎_elim (λ u. u.1) (λ u. clash far_right u.0)
            (unlike_of levels nx ny v wide row col (turn (turn s.side)) (all (turn (turn s.side))))

        exit_at_rule : (b : Bool) → cut_of levels nx v row col ≡ b
            → exit_of g row col s.side ≡ cond b (turn s.side) (turn (turn (turn s.side)))
        exit_at_rule b e = rw (far_right, far_left, e)

        right : s.side' ≡ turn s.side → exit_of g row col s.side ≡ s.side'
        right e =
            let o = right_out levels nx v row col c.row' c.col' s.side s.enters c.meet.0
            (subst (λ (t : Side). EndOf row col t c.row' c.col') e c.meet.1) in
            let l : 4 * v ≤ corners_of levels nx row col = c.out_corner.0 o in
            exit_at_rule true (le-leb (4 * v) _ (omega arith)) ∙ sym e

        left : s.side' ≡ turn (turn (turn s.side)) → exit_of g row col s.side ≡ s.side'
        left e =
            let i = left_in levels nx v row col c.row' c.col' s.side s.enters c.meet.0
            (subst (λ (t : Side). EndOf row col t c.row' c.col') e c.meet.1) in
            let l : corners_of levels nx row col < 4 * v = c.in_corner.0 i in
            exit_at_rule false (lt-leb (4 * v) _ (omega arith)) ∙ sym e

    leads : next_at g n ≡ m
    leads =
        ap (next_at g) (s.first ∙ number_is nx ny row col s.side)
        ∙ ⊎_elim two (λ a. four a.0 a.1) s.joined
        ∙ sym (s.second ∙ number_is nx ny row col s.side')

    pub follows : Follows g n m
    follows = record {
      leads = leads;
      neighbours = record {
        row = row;
        col = col;
        side = s.side;
        side' = s.side';
        within = s.within;
        first = s.first ∙ number_is nx ny row col s.side;
        second = s.second ∙ number_is nx ny row col s.side';
        differ = s.sides_differ;
      };
    }

  -- ---- in and out over the border

  pub enters : (n : ℕ) → ComesIn levels nx ny v n → Enters g n
  enters n c = record { border = enters_border g wide n low is; enters = is }
    where
      low : n < edges_in g
      low = subst (λ (i : ℕ). i < edges_in g) (sym (c.number ∙ number_is nx ny c.row c.col c.side))
          (number_lt nx ny wide (side_edge c.row c.col c.side)
          (side_within nx ny c.row c.col c.side c.within))

      go : (row col : ℕ) → (row + 1 < ny) × (col + 1 < nx) → (s : Side) → OnBorder nx ny row col s
          → HeadsIn levels nx v row col s → enters_at g (side_number nx ny row col s) ≡ true
      go row col w South b h = ((rule.enters row col).lying (omega (arith, w.0)) w.1).1 (inl (b, h))
      go row col w East b h =
          ((rule.enters row (col + 1)).standing w.0 w.1).1 (inr (omega (arith, b), h))
      go row col w North b h = ((rule.enters (row + 1) col).lying w.0 w.1).1 (inr (omega (arith, b), h))
      go row col w West b h = ((rule.enters row col).standing w.0 (omega (arith, w.1))).1 (inl (b, h))

      is : enters_at g n ≡ true
      is = subst (λ (i : ℕ). enters_at g i ≡ true) (sym c.number)
          (go c.row c.col c.within c.side c.border c.heads)

  pub exits : (n : ℕ) → GoesOut levels nx ny v n → Exits g n
  exits n c = record { border = leaves_border g wide n low is; no_next = is }
    where
      e : n ≡ number_of nx ny (side_edge c.row c.col c.side)
      e = c.number ∙ number_is nx ny c.row c.col c.side

      inside : WithinEdge nx ny (side_edge c.row c.col c.side)
      inside = side_within nx ny c.row c.col c.side c.within

      low : n < edges_in g
      low = subst (λ (i : ℕ). i < edges_in g) (sym e)
          (number_lt nx ny wide (side_edge c.row c.col c.side) inside)

      past : (row col : ℕ) (s : Side) → OnBorder nx ny row col s → beyond nx ny row col s ≡ None
      past row col South b = rw (eq-eqb row 0 b)
      past row col East b = rw (le-ltb (col + 1 + 1) nx (omega arith))
      past row col North b = rw (le-ltb (row + 1 + 1) ny (omega arith))
      past row col West b = rw (eq-eqb col 0 b)

      is : next_at g n ≡ edges_in g
      is =
          let o = out_corners levels nx ny v wide c.row c.col c.side c.heads in
          ap (next_at g) e ∙ rule.none (side_edge c.row c.col c.side) inside
          (heads_out g c.row c.col c.side o.0 o.1 ∙ past c.row c.col c.side c.border)
