-- A contour goes from edge to edge as the rules say of the levels. Assumes nothing.
use Rattle.std.specs.Prelude.{None}
use mathlib.Core.Path.{◌≡◌, refl, sym, ap, ◌∙◌, subst}
use mathlib.Core.Bool.{Bool, true, false, not, ◌&&◌, cond, true≢false}
use mathlib.Core.{Logic.◌⊎◌, Logic.inl, Logic.inr, Logic.⊎_elim, Logic.◌↔◌, List.List}
use Prim.Native.Nat.{ℕ, ◌+◌, ◌*◌, ◌≤◌, ◌<◌}
use native.Mathlib.{Nat.add-sub_cancel, Omega.arith}
use borrow.Author.Tests.{ltb-false, leb-true, leb-false, eqb-true, lt-ltb, le-ltb, le-leb, lt-leb}
use borrow.Author.Tests.{eq-eqb, ne_eqb}
use lib.{Dec.ltb, Dec.leb, Dec.eqb, ListN.get_or}
use Rattle.network.specs.declared.Edge.{Edge}
use Rattle.network.specs.declared.Edge.TheVariants.{Horizontal, Vertical}
use Rattle.network.specs.{Edges.number_of, Edges.WithinEdge, Crossed.unlike, Numbering.In, Numbering.Out}
use Rattle.network.proofs.{Numbers.at_number, Numbering.crossed_exactly}
use Rattle.contour_rules.specs.declared.Side.{Side}
use Rattle.contour_rules.specs.Crossings.{Ahead}
use Rattle.contour_rules.specs.declared.Side.TheVariants.{South, East, North, West}
use Rattle.contour_rules.specs.Crossings.{into}
use Rattle.contour_rules.specs.Picture.{Picture, picture, cut_of}
use Rattle.contour_rules.specs.Squares.{turn, side_edge, corner, exit_of}
use Rattle.contour_rules.specs.Crossings.{north_of, south_of, west_of, east_of, crossed, behind_of}
use Rattle.contour_rules.specs.Crossings.{is_outside, To, through, next_of, next_number, crossed_at}
use Rattle.contour_rules.specs.Crossings.{enters_at, next_at}
use Rattle.contour_rules.specs.Rule.{HasEnd, four_corners, lines, IsCrossed, CrossesExactly, Heads}
use Rattle.contour_rules.specs.Rule.{EntersExactly, CutsOff, Entering, FollowsRule}
use Rattle.contour_rules.proofs.Heading.{Entry, Entered, entered, leaves_elsewhere, side_within}
use Rattle.contour_rules.proofs.Back.{four_turns, leads}

-- ---- what lies outside

outside_if : {P : Type 0} (b : Bool) (row col : ℕ) (s : Side) → (b ≡ false) ↔ P
    → (is_outside (cond b (into row col s) None) ≡ true) ↔ P
outside_if true row col s i = (λ h. absurd (true≢false (sym h)), λ p. absurd (true≢false (i.1 p)))
outside_if false row col s i = (λ h. i.0 refl, λ p. refl)

outside_unless : {P : Type 0} (b : Bool) (row col : ℕ) (s : Side) → (b ≡ true) ↔ P
    → (is_outside (cond b None (into row col s)) ≡ true) ↔ P
outside_unless true row col s i = (λ h. i.0 refl, λ p. refl)
outside_unless false row col s i = (λ h. absurd (true≢false (sym h)), λ p. absurd (true≢false (sym (i.1 p))))

-- past the last, and at the first
last_one : (i n : ℕ) → i < n → (ltb (i + 1) n ≡ false) ↔ (i + 1 ≡ n)
last_one i n l = (λ h. omega (arith, ltb-false (i + 1) n h), λ e. le-ltb (i + 1) n (omega arith))

first_one : (i : ℕ) → (eqb i 0 ≡ true) ↔ (i ≡ 0)
first_one i = (λ h. eqb-true i 0 h, λ e. eq-eqb i 0 e)

-- a crossed edge that comes from outside, where `x` lies behind if its first end is out and `y` if it is in
comes_in : {P Q : Type 0} (v a b : ℕ) (x y : Ahead) → (is_outside y ≡ true) ↔ P → (is_outside x ≡ true) ↔ Q
    → ((unlike (leb v a) (leb v b) && is_outside (cond (not (leb v a)) x y)) ≡ true) ↔
    ((P × ((v ≤ a) × (b < v))) ⊎ (Q × ((a < v) × (v ≤ b))))
comes_in {P} {Q} v a b x y p q = go (leb v a) (leb v b) refl refl
  where
    go : (s t : Bool) → leb v a ≡ s → leb v b ≡ t
        → ((unlike s t && is_outside (cond (not s) x y)) ≡ true) ↔
        ((P × ((v ≤ a) × (b < v))) ⊎ (Q × ((a < v) × (v ≤ b))))
    go true true e f = (
      λ h. absurd (true≢false (sym h)),
      λ h. ⊎_elim (λ w. absurd (omega (arith, leb-true v b f, w.1.1)))
          (λ w. absurd (omega (arith, leb-true v a e, w.1.0))) h,
    )
    go true false e f = (
      λ h. inl (p.0 h, (leb-true v a e, leb-false v b f)),
      λ h. ⊎_elim (λ w. p.1 w.0) (λ w. absurd (omega (arith, leb-true v a e, w.1.0))) h,
    )
    go false true e f = (
      λ h. inr (q.0 h, (leb-false v a e, leb-true v b f)),
      λ h. ⊎_elim (λ w. absurd (omega (arith, leb-false v a e, w.1.0))) (λ w. q.1 w.0) h,
    )
    go false false e f = (
      λ h. absurd (true≢false (sym h)),
      λ h. ⊎_elim (λ w. absurd (omega (arith, leb-false v a e, w.1.0)))
          (λ w. absurd (omega (arith, leb-false v b f, w.1.1))) h,
    )

-- ---- the corners of a square: of each side the one on the left of who enters by it

abbrev row_at : ℕ → Side → ℕ
row_at row South = row
row_at row East = row
row_at row North = row + 1
row_at row West = row + 1

abbrev col_at : ℕ → Side → ℕ
col_at col South = col
col_at col East = col + 1
col_at col North = col + 1
col_at col West = col

-- a side ends in its corner and in that of the next side
end_left : (row col : ℕ) (t : Side) → HasEnd (side_edge row col t) (row_at row t) (col_at col t)
end_left row col South = (refl, inl refl)
end_left row col East = (inl refl, refl)
end_left row col North = (refl, inr refl)
end_left row col West = (inr refl, refl)

end_right : (row col : ℕ) (t : Side) → HasEnd (side_edge row col t) (row_at row (turn t)) (col_at col (turn t))
end_right row col South = (refl, inr refl)
end_right row col East = (inr refl, refl)
end_right row col North = (refl, inl refl)
end_right row col West = (inl refl, refl)

corner_level : (levels : List ℕ) (nx ny v row col : ℕ) (t : Side)
    → corner (picture levels nx ny v) row col t ≡ leb v (get_or levels (row_at row t * nx + col_at col t) 0)
corner_level levels nx ny v row col South = refl
corner_level levels nx ny v row col East = refl
corner_level levels nx ny v row col North = refl
corner_level levels nx ny v row col West = refl

second_not : (a b : Bool) → unlike a b ≡ true → b ≡ not a
second_not true true h = sym h
second_not true false h = refl
second_not false b h = h

first_not : (a b : Bool) → unlike a b ≡ true → a ≡ not b
first_not true true h = sym h
first_not true false h = refl
first_not false true h = refl
first_not false false h = h

other_way : {P Q : Type 0} → P ⊎ Q → Q ⊎ P
other_way h = ⊎_elim (λ p. inr p) (λ q. inl q) h

module _ (levels : List ℕ) (nx ny v : ℕ) (wide : 2 ≤ nx) where
  abbrev g : Picture
  g = lines levels nx ny v

  -- ---- which edges are crossed

  -- an edge is crossed if that of its number is
  of_number : {P : Type 0} (e : Edge) → WithinEdge nx ny e → (crossed_at g (number_of nx ny e) ≡ true) ↔ P
      → IsCrossed levels nx ny v e ↔ P
  of_number {P} e w i = subst (λ (x : Edge). (crossed g x ≡ true) ↔ P) (at_number nx ny wide e w) i

  crossing : (row col : ℕ) → CrossesExactly levels nx ny v row col
  crossing row col =
      let x = crossed_exactly levels nx ny v wide in
      record {
        lying = λ h k. of_number (Horizontal row col) (h, k) (x.lying row col h k);
        standing = λ h k. of_number (Vertical row col) (h, k) (x.standing row col h k);
        lying_at = λ h k. x.lying row col h k;
        standing_at_rule = λ h k. x.standing row col h k;
      }

  -- ---- where a crossing heads, and where it comes in

  heading : (row col : ℕ) → Heads levels nx ny v row col
  heading row col = record {
    north = λ i l. simp (le-leb _ _ i, lt-ltb _ _ l);
    north_out = λ i e. simp (le-leb _ _ i, le-ltb (row + 1) ny (omega arith));
    south = λ o. simp (lt-leb _ _ o, ne_eqb (row + 1) 0 (λ h. omega arith), add-sub_cancel);
    south_out = λ o. simp (lt-leb _ _ o);
    west = λ i. simp (le-leb _ _ i, ne_eqb (col + 1) 0 (λ h. omega arith), add-sub_cancel);
    west_out = λ i. simp (le-leb _ _ i);
    east = λ o l. simp (lt-leb _ _ o, lt-ltb _ _ l);
    east_out = λ o e. simp (lt-leb _ _ o, le-ltb (col + 1) nx (omega arith));
  }

  -- the edge of its number
  by_edge : {P : Type 0} (e : Edge) → WithinEdge nx ny e
      → ((crossed g e && is_outside (behind_of g e)) ≡ true) ↔ P → (enters_at g (number_of nx ny e) ≡ true) ↔ P
  by_edge {P} e w i = subst (λ (x : Edge). ((crossed g x && is_outside (behind_of g x)) ≡ true) ↔ P)
      (sym (at_number nx ny wide e w)) i

  entering : (row col : ℕ) → EntersExactly levels nx ny v row col
  entering row col = record {
    lying = λ h k. by_edge (Horizontal row col) (h, k)
        (comes_in v _ _ (north_of ny row col) (south_of row col) (outside_unless (eqb row 0) _ _ _ (first_one row))
        (outside_if (ltb (row + 1) ny) _ _ _ (last_one row ny h)));
    standing = λ h k.
        let i = by_edge (Vertical row col) (h, k)
        (comes_in v _ _ (west_of row col) (east_of nx row col)
        (outside_if (ltb (col + 1) nx) _ _ _ (last_one col nx k))
        (outside_unless (eqb col 0) _ _ _ (first_one col))) in
        (λ t. other_way (i.0 t), λ t. i.1 (other_way t));
  }

  -- ---- through a square

  module _ (row col : ℕ) (s : Side) (i : Entering levels nx ny v row col s) where
    within : WithinEdge nx ny (side_edge row col s)
    within = side_within nx ny row col s i.within

    entry : Entry g (side_edge row col s) row col s
    entry = subst (Entered g (side_edge row col s)) i.heads (entered g (side_edge row col s) within)

    leads_on_rule : next_of g (side_edge row col s) ≡ To (side_edge row col (exit_of g row col s))
    leads_on_rule = ap (through g) i.heads

    next_side_rule : next_at g (number_of nx ny (side_edge row col s))
        ≡ number_of nx ny (side_edge row col (exit_of g row col s))
    next_side_rule = ap (λ (e : Edge). next_number nx ny (next_of g e))
        (at_number nx ny wide (side_edge row col s) within)
        ∙ ap (next_number nx ny) leads_on_rule

    exit_crossed : IsCrossed levels nx ny v (side_edge row col (exit_of g row col s))
    exit_crossed = (leads g (side_edge row col s) within i.crossing _ leads_on_rule).crossing

    elsewhere : s ≡ exit_of g row col s → ⊥
    elsewhere = leaves_elsewhere (corner g row col (turn (turn s))) (corner g row col (turn (turn (turn s))))
        (g.cut row col) s

    pub to_the_other : (s' : Side)
        → ((t : Side) → IsCrossed levels nx ny v (side_edge row col t) → (t ≡ s) ⊎ (t ≡ s'))
        → next_at g (number_of nx ny (side_edge row col s)) ≡ number_of nx ny (side_edge row col s')
    to_the_other s' only =
        next_side_rule ∙ ⊎_elim (λ e. absurd (elsewhere (sym e)))
        (λ e. ap (λ (t : Side). number_of nx ny (side_edge row col t)) e) (only (exit_of g row col s) exit_crossed)

    -- with four crossed edges the far corner on the right is in and the one on the left is out
    module _ (all : (t : Side) → IsCrossed levels nx ny v (side_edge row col t)) where
      unlike_next : (t : Side) → corner g row col (turn t) ≡ not (corner g row col t)
      unlike_next South = second_not (corner g row col South) (corner g row col East) (all South)
      unlike_next East = second_not (corner g row col East) (corner g row col North) (all East)
      unlike_next North = first_not (corner g row col West) (corner g row col North) (all North)
      unlike_next West = first_not (corner g row col South) (corner g row col West) (all West)

      left_in : corner g row col s ≡ true
      left_in = entry.left i.crossing

      right_out : corner g row col (turn s) ≡ false
      right_out = entry.right i.crossing

      far_right : corner g row col (turn (turn s)) ≡ true
      far_right = unlike_next (turn s) ∙ ap not right_out

      far_left : corner g row col (turn (turn (turn s))) ≡ false
      far_left = unlike_next (turn (turn s)) ∙ ap not far_right

      exit_at_rule : (b : Bool) → cut_of levels nx v row col ≡ b
          → exit_of g row col s ≡ cond b (turn s) (turn (turn (turn s)))
      exit_at_rule b e = rw (far_right, far_left, e)

      -- the line leaves by side s', which shares the corner of side t with the one entered
      cuts_off : (s' t : Side) → exit_of g row col s ≡ s'
          → HasEnd (side_edge row col s) (row_at row t) (col_at col t) × HasEnd (side_edge row col s') (row_at row t)
          (col_at col t)
          → (Out levels nx v (row_at row t) (col_at col t) ↔ (4 * v ≤ four_corners levels nx row col))
          → (In levels nx v (row_at row t) (col_at col t) ↔ (four_corners levels nx row col < 4 * v))
          → CutsOff levels nx ny v row col s
      cuts_off s' t e h o j = record {
        side' = s';
        leads = next_side_rule ∙ ap (λ (t : Side). number_of nx ny (side_edge row col t)) e;
        differ = λ q. elsewhere (q ∙ sym e);
        row' = row_at row t;
        col' = col_at col t;
        shared = h;
        out_corner = o;
        in_corner = j;
      }

      pub cuts : CutsOff levels nx ny v row col s
      cuts = go (cut_of levels nx v row col) refl
        where
          go : (b : Bool) → cut_of levels nx v row col ≡ b → CutsOff levels nx ny v row col s
          go true e =
              let o : Out levels nx v (row_at row (turn s)) (col_at col (turn s)) =
              leb-false _ _ (sym (corner_level levels nx ny v row col (turn s)) ∙ right_out) in
              let k : 4 * v ≤ four_corners levels nx row col = omega (arith, leb-true (4 * v) _ e) in
              cuts_off (turn s) (turn s) (exit_at_rule true e) (end_right row col s, end_left row col (turn s))
              (λ _. k, λ _. o) (λ h. absurd (omega arith), λ h. absurd (omega arith))
          go false e =
              let o : In levels nx v (row_at row s) (col_at col s) =
              leb-true _ _ (sym (corner_level levels nx ny v row col s) ∙ left_in) in
              let k : four_corners levels nx row col < 4 * v = omega (arith, leb-false (4 * v) _ e) in
              let r : HasEnd (side_edge row col (turn (turn (turn s)))) (row_at row s) (col_at col s) =
              subst (λ (t : Side). HasEnd (side_edge row col (turn (turn (turn s)))) (row_at row t) (col_at col t))
              (four_turns s) (end_right row col (turn (turn (turn s)))) in
              cuts_off (turn (turn (turn s))) s (exit_at_rule false e) (end_left row col s, r)
              (λ h. absurd (omega arith), λ h. absurd (omega arith)) (λ _. k, λ _. o)

  pub follows_rule : FollowsRule levels nx ny v
  follows_rule = record {
    sides = λ row col. record { south = refl; east = refl; north = refl; west = refl };
    crosses = crossing;
    count = refl;
    heads = heading;
    enters = entering;
    two = λ row col s s' i only. to_the_other row col s i s' only;
    four = λ row col s i all. cuts row col s i all;
    none = λ e w h. ap (λ (e : Edge). next_number nx ny (next_of g e)) (at_number nx ny wide e w)
        ∙ ap (λ (a : Ahead). next_number nx ny (through g a)) h;
  }
