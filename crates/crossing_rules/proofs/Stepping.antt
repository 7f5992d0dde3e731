-- What a crossed edge leads to is the rule's step, said of the levels. Assumes nothing.
use Rattle.std.specs.Prelude.{Option, Some, None}
use mathlib.Core.Path.{◌≡◌, refl, sym, ap, ◌∙◌, subst}
use mathlib.Core.{Bool.Bool, Bool.true, Bool.false, Bool.◌||◌, List.List}
use mathlib.Core.Logic.{inl, inr, ⊎_elim}
use Prim.Native.Nat.{ℕ, ◌+◌, ◌-◌, ◌≤◌, ◌<◌}
use native.Mathlib.Omega.{arith}
use borrow.Author.Tests.{eqb-true}
use lib.Dec.{eqb}
use Rattle.network.specs.declared.Edge.{Edge}
use Rattle.network.specs.declared.Edge.TheVariants.{Horizontal, Vertical}
use Rattle.network.specs.{Edges.number_of, Edges.WithinEdge}
use Rattle.network.proofs.{Refusals.both, Numbers.number_lt, Numbers.edge_within, Numbers.number_at_rule}
use Rattle.contour_rules.specs.declared.Side.{Side}
use Rattle.contour_rules.specs.Crossings.{Ahead}
use Rattle.contour_rules.specs.declared.Side.TheVariants.{South, East, North, West}
use Rattle.contour_rules.specs.Crossings.{into}
use Rattle.contour_rules.specs.Picture.{Picture}
use Rattle.contour_rules.specs.Squares.{WithinSquare, turn, side_edge, corner, exit_of}
use Rattle.contour_rules.specs.Crossings.{crossed, ahead_of, behind_of, through, is_outside, on_border, edges_in}
use Rattle.contour_rules.specs.Crossings.{edge_of}
use Rattle.contour_rules.specs.Crossings.{crossed_at, enters_at, next_number, next_at}
use Rattle.contour_rules.specs.Rule.{lines, Entering, FollowsRule}
use Rattle.contour_rules.specs.Once.{Follows}
use Rattle.contour_rules.proofs.Heading.{Entry, Entered, entered, side_within, heads_in}
use Rattle.contour_rules.proofs.{Heading.leaves_elsewhere, Following.follows_rule, Waiting.clash}
use Rattle.crossing_rules.specs.Step.{OnBorder, HeadsIn, HeadsOut, CutOff, Step}
use Rattle.crossing_rules.specs.Step.{OverBorder, ComesIn, GoesOut}
use Rattle.crossing_rules.proofs.Corners.{number_is, ends_are, in_heading, out_heading, unlike_of, crossed_of}
use Rattle.crossing_rules.proofs.Corners.{edge_crossed, crossed_unlike, behind_in, sides_apart}
use Rattle.crossing_rules.proofs.Passing.{Unlike, Passes, passes}

-- an edge of the border is a side of a square
record BorderSide (nx ny : ℕ) (e : Edge) : Type 0 where
  row : ℕ
  col : ℕ
  within : WithinSquare nx ny row col
  side : Side
  edge : e ≡ side_edge row col side
  border : OnBorder nx ny row col side

back_one : (n : ℕ) → 1 ≤ n → n ≡ n - 1 + 1
back_one n h = omega arith

second : (a b : Bool) → a ≡ false → (a || b) ≡ true → b ≡ true
second true b e h = clash refl e
second false b e h = h

border_side : (nx ny : ℕ) → 2 ≤ nx → 2 ≤ ny → (e : Edge) → WithinEdge nx ny e → on_border nx ny e ≡ true
    → BorderSide nx ny e
border_side nx ny wide tall (Horizontal row col) w h = go (eqb row 0) refl
  where
    go : (b : Bool) → eqb row 0 ≡ b → BorderSide nx ny (Horizontal row col)
    go true e =
        let z = eqb-true row 0 e in
        record { row = row; col = col; within = (omega (arith, z), w.1); side = South; edge = refl; border = z }
    go false e =
        let z : row + 1 ≡ ny = eqb-true (row + 1) ny (second (eqb row 0) (eqb (row + 1) ny) e h) in
        record {
          row = row - 1;
          col = col;
          within = (omega (arith, z), w.1);
          side = North;
          edge = ap (λ (k : ℕ). Horizontal k col) (back_one row (omega (arith, z)));
          border = omega (arith, z);
        }
border_side nx ny wide tall (Vertical row col) w h = go (eqb col 0) refl
  where
    go : (b : Bool) → eqb col 0 ≡ b → BorderSide nx ny (Vertical row col)
    go true e =
        let z = eqb-true col 0 e in
        record { row = row; col = col; within = (w.0, omega (arith, z)); side = West; edge = refl; border = z }
    go false e =
        let z : col + 1 ≡ nx = eqb-true (col + 1) nx (second (eqb col 0) (eqb (col + 1) nx) e h) in
        record {
          row = row;
          col = col - 1;
          within = (w.0, omega (arith, z));
          side = East;
          edge = ap (λ (k : ℕ). Vertical row k) (back_one col (omega (arith, z)));
          border = omega (arith, z);
        }

module _ (levels : List ℕ) (nx ny v : ℕ) (wide : 2 ≤ nx) where
  abbrev g : Picture
  g = lines levels nx ny v

  rule : FollowsRule levels nx ny v
  rule = follows_rule levels nx ny v wide

  -- ---- from edge to edge

  module _ (n : ℕ) (low : n < edges_in g) (x : crossed_at g n ≡ true) where
    module _ (row col : ℕ) (s : Side) (h : ahead_of g (edge_of g n) ≡ into row col s) where
      entry : Entry g (edge_of g n) row col s
      entry = subst (Entered g (edge_of g n)) h (entered g (edge_of g n) (edge_within nx ny wide n low))

      abbrev s' : Side
      s' = exit_of g row col s

      passing : Passes (corner g row col) s (entry.left x) (entry.right x) s'
      passing = passes (corner g row col) s (entry.left x) (entry.right x) (g.cut row col)

      is_side : n ≡ number_of nx ny (side_edge row col s)
      is_side = sym (number_at_rule nx ny wide n low) ∙ ap (number_of nx ny) entry.edge

      next_side_rule : next_at g n ≡ number_of nx ny (side_edge row col s')
      next_side_rule = ap (λ (a : Ahead). next_number nx ny (through g a)) h

      next_low : next_at g n < edges_in g
      next_low = subst (λ (k : ℕ). k < edges_in g) (sym next_side_rule)
          (number_lt nx ny wide (side_edge row col s') (side_within nx ny row col s' entry.within))

      differ : s ≡ s' → ⊥
      differ = leaves_elsewhere (corner g row col (turn (turn s))) (corner g row col (turn (turn (turn s))))
          (g.cut row col) s

      entering : Entering levels nx ny v row col s
      entering = record {
        within = entry.within;
        crossing = subst (λ (e : Edge). crossed g e ≡ true) entry.edge x;
        heads = subst (λ (e : Edge). ahead_of g e ≡ into row col s) entry.edge h;
      }

      cuts_off : ((t : Side) → Unlike (corner g row col) t) → CutOff levels nx ny v row col s s'
      cuts_off all =
          let c = rule.four row col s entering (λ t. edge_crossed levels nx ny v wide row col t (all t)) in
          let e : c.side' ≡ s' =
          sides_apart levels nx ny v wide row col entry.within c.side' s'
          (sym c.leads ∙ ap (next_at g) (sym is_side) ∙ next_side_rule) in
          subst (CutOff levels nx ny v row col s) e (record {
            row' = c.row';
            col' = c.col';
            meet = (
              ends_are row col c.row' c.col' s c.shared.0,
              ends_are row col c.row' c.col' c.side' c.shared.1,
            );
            out_corner = c.out_corner;
            in_corner = c.in_corner;
          })

      through_square : Step levels nx ny v n (next_at g n)
      through_square = record {
        row = row;
        col = col;
        within = entry.within;
        side = s;
        side' = s';
        first = is_side ∙ sym (number_is nx ny row col s);
        second = next_side_rule ∙ sym (number_is nx ny row col s');
        sides_differ = differ;
        edges_differ = λ e. differ
            (sides_apart levels nx ny v wide row col entry.within s s' (sym is_side ∙ e ∙ next_side_rule));
        enters = in_heading levels nx ny v wide row col s (entry.left x) (entry.right x);
        leaves = out_heading levels nx ny v wide row col s' passing.out_left passing.in_right;
        joined = ⊎_elim (λ only. inl (λ t c. only t (unlike_of levels nx ny v wide row col t c)))
            (λ all. inr (λ t. crossed_of levels nx ny v wide row col t (all t), cuts_off all)) passing.two_or_four;
      }

    pub step : (m : ℕ) → Follows g n m → Step levels nx ny v n m
    step m f = go (ahead_of g (edge_of g n)) refl
      where
        below : m < edges_in g
        below =
            let i = f.neighbours in
            subst (λ (k : ℕ). k < edges_in g) (sym i.second)
            (number_lt nx ny wide (side_edge i.row i.col i.side')
            (side_within nx ny i.row i.col i.side' i.within))

        go : (a : Ahead) → ahead_of g (edge_of g n) ≡ a → Step levels nx ny v n m
        go (Some a) h = subst (Step levels nx ny v n) f.leads (through_square a.row a.col a.side h)
        go None h =
            let e : next_at g n ≡ edges_in g = ap (λ (a : Ahead). next_number nx ny (through g a)) h in
            absurd (omega (arith, below, f.leads, e))

    -- ---- in and out over the border

    module _ (tall : 2 ≤ ny) (rim : on_border nx ny (edge_of g n) ≡ true) where
      abbrev b : BorderSide nx ny (edge_of g n)
      b = border_side nx ny wide tall (edge_of g n) (edge_within nx ny wide n low) rim

      abbrev k : Side → Bool
      k = corner g b.row b.col

      heading : Unlike k b.side
      heading = crossed_unlike levels nx ny v wide b.row b.col b.side
          (subst (λ (e : Edge). crossed g e ≡ true) b.edge x)

      over : (Heads : (row col : ℕ) → Side → Type 0) → Heads b.row b.col b.side → OverBorder nx ny Heads n
      over Heads h = record {
        row = b.row;
        col = b.col;
        within = b.within;
        side = b.side;
        number = sym (number_at_rule nx ny wide n low) ∙ ap (number_of nx ny) b.edge
            ∙ sym (number_is nx ny b.row b.col b.side);
        border = b.border;
        heads = h;
      }

      pub comes_in : enters_at g n ≡ true → ComesIn levels nx ny v n
      comes_in h =
          ⊎_elim
          (λ u. over (HeadsIn levels nx v)
          (in_heading levels nx ny v wide b.row b.col b.side u.0 u.1))
          (λ u. clash (both (crossed_at g n) (is_outside (behind_of g (edge_of g n))) h).1
          (ap (λ (e : Edge). is_outside (behind_of g e)) b.edge
          ∙ ap is_outside (behind_in levels nx ny v wide b.row b.col b.within b.side u.0 u.1))) heading

      pub goes_out : next_at g n ≡ edges_in g → GoesOut levels nx ny v n
      goes_out h =
          ⊎_elim (λ u. absurd (omega (
            arith,
            h,
            next_low b.row b.col b.side
                (ap (ahead_of g) b.edge ∙ heads_in g b.row b.col b.side b.within u.0 u.1),
          )))
          (λ u. over (HeadsOut levels nx v)
          (out_heading levels nx ny v wide b.row b.col b.side u.0 u.1)) heading
