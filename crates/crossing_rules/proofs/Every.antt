-- Numbers that tell the contours of a network hold every crossing one time. Assumes nothing.
use mathlib.Core.Path.{◌≡◌, refl, sym, ap, ◌∙◌}
use mathlib.Core.{Bool.Bool, Bool.true, Bool.false, Bool.cond, List.List}
use mathlib.Core.Logic.{◌⊎◌, inl, inr, ⊎_elim}
use Prim.Native.Nat.{ℕ, zero, suc, ◌+◌, ◌-◌, ◌≤◌, ◌<◌}
use native.Mathlib.Omega.{arith}
use borrow.Author.Tests.{ltb-true, ltb-false}
use lib.{Dec.ltb, Dec.eqb, ListN.length, ListN.get_or}
use Rattle.network.proofs.Refusals.{both}
use Rattle.contour_rules.specs.{Picture.Picture, Crossings.edges_in, Crossings.crossed_at}
use Rattle.contour_rules.specs.Contours.{Contour, bit, edges_of}
use Rattle.contour_rules.specs.Once.{Follows, sum_to, EachOnce}
use Rattle.contour_rules.specs.{Rule.lines, EachEdge.edges_at, EachEdge.EachCrossedEdgeOnce}
use Rattle.contour_rules.specs.EachEdge.{StandsAt as On, StandsOnce as OnOnce}
use Rattle.contour_rules.proofs.Sums.{sum_same, sum_add, each_listed}
use Rattle.contour_rules.proofs.EachEdge.{is_crossed_rule, said_of_levels}
use Rattle.crossing_rules.specs.Step.{Step, ComesIn, GoesOut}
use Rattle.crossing_rules.specs.OneTime.{edge_of, steps_of, steps_made, open_ones, crossed_edges, OneTime}
use Rattle.crossing_rules.specs.OneTime.{StandsAt, StandsOnce, OnContour, Before}
use Rattle.crossing_rules.proofs.{Counting.counted, Reading.contour_at, Reading.Tells}
use Rattle.crossing_rules.proofs.Places.{ByPlace, sound_at_rule, ordered_at}
use Rattle.crossing_rules.proofs.Stepping.{step, comes_in, goes_out}

-- ---- marks

mark_of : (b : Bool) → (bit b ≡ 0) ⊎ (bit b ≡ 1)
mark_of true = inr refl
mark_of false = inl refl

pub closes_if : (b : Bool) → bit b ≡ 1 → b ≡ true
closes_if true h = refl
closes_if false h = absurd (omega arith)

pub open_if : (b : Bool) → bit b ≡ 0 → b ≡ false
open_if true h = absurd (omega arith)
open_if false h = refl

-- a contour's steps, and one where it is open, are as many as its edges
steps_and_open : (n : ℕ) (b : Bool) → 1 ≤ n → steps_of n (bit b) + cond (eqb (bit b) 0) 1 0 ≡ n
steps_and_open n true h = omega arith
steps_and_open n false h = omega arith

-- ---- a place among numbers summed up

pub record InPart (f : ℕ → ℕ) (n p : ℕ) : Type 0 where
  pub i : ℕ
  pub j : ℕ
  pub low : i < n
  pub within : j < f i
  pub at : p ≡ sum_to f i + j

pub in_part : (f : ℕ → ℕ) (n p : ℕ) → p < sum_to f n → InPart f n p
unfolding sum_to
in_part f zero p h = absurd (omega arith)
in_part f (suc n) p h = go (ltb p (sum_to f n)) refl (in_part f n p)
  where
    go : (b : Bool) → ltb p (sum_to f n) ≡ b → (p < sum_to f n → InPart f n p) → InPart f (suc n) p
    go true e r =
        let q = r (ltb-true _ _ e) in
        record { i = q.i; j = q.j; low = omega (arith, q.low); within = q.within; at = q.at }
    go false e r =
        let l = ltb-false p (sum_to f n) e in
        record { i = n; j = p - sum_to f n; low = omega arith; within = omega (arith, l); at = omega (arith, l) }

-- ---- the theorem

module _ (levels : List ℕ) (nx ny v : ℕ) (wide : 2 ≤ nx) (tall : 2 ≤ ny) where
  abbrev g : Picture
  g = lines levels nx ny v

  module _ (cs : List Contour) (each : EachOnce g cs) (edges counts closed : List ℕ) (listed contours : ℕ)
      (t : Tells cs edges counts closed listed contours) where
    on_levels : EachCrossedEdgeOnce levels nx ny v cs
    on_levels = said_of_levels levels nx ny v wide cs each

    below : (i : ℕ) → i < contours → i < length cs
    below i h = omega (arith, t.contours_are)

    place_below : (i j : ℕ) → i < contours → j < get_or counts i 0 → j < length (edges_at cs i)
    place_below i j h k = omega (arith, t.count i (below i h))

    stands_on : (n i j : ℕ) → StandsAt edges counts contours n i j → On cs n i j
    stands_on n i j s =
        let h = below i s.contour in
        let k = place_below i j s.contour s.place in
        record { contour = h; place = k; number = sym (t.edge i j h k) ∙ s.number }

    stands_told : (n i j : ℕ) → On cs n i j → StandsAt edges counts contours n i j
    stands_told n i j s = record {
      contour = omega (arith, t.contours_are, s.contour);
      place = omega (arith, t.count i s.contour, s.place);
      number = t.edge i j s.contour s.place ∙ s.number;
    }

    once_told : (n : ℕ) → OnOnce cs n → StandsOnce edges counts contours n
    once_told n o = record {
      i = o.i;
      j = o.j;
      here = stands_told n o.i o.j o.here;
      only = λ i' j' s. o.only i' j' (stands_on n i' j' s);
    }

    -- ---- the edge at a place

    module _ (i : ℕ) (h : i < contours) where
      abbrev ns : List ℕ
      ns = edges_at cs i

      abbrev line : ByPlace g (contour_at cs i).closes ns
      line = sound_at_rule g cs each.sound i (below i h)

      told : (j : ℕ) → j < length ns → edge_of edges counts i j ≡ get_or ns j 0
      told j k = t.edge i j (below i h) k

      last : get_or counts i 0 - 1 ≡ length ns - 1
      last = ap (λ (n : ℕ). n - 1) (t.count i (below i h))

      last_told_rule : edge_of edges counts i (get_or counts i 0 - 1) ≡ get_or ns (length ns - 1) 0
      last_told_rule = ap (edge_of edges counts i) last ∙ told (length ns - 1) (omega (arith, line.some))

      crossing : (j : ℕ) → j < length ns → (get_or ns j 0 < edges_in g) × (crossed_at g (get_or ns j 0) ≡ true)
      crossing j k =
          let n = get_or ns j 0 in
          let c = on_levels.no_other n i j (record { contour = below i h; place = k; number = refl }) in
          let b = both (ltb n (edges_in g)) (crossed_at g n) (is_crossed_rule levels nx ny v wide n c) in
          (ltb-true _ _ b.0, b.1)

      closed_one : get_or closed i 0 ≡ 1 → (contour_at cs i).closes ≡ true
      closed_one e = closes_if (contour_at cs i).closes (sym (t.mark i (below i h)) ∙ e)

      open_one : get_or closed i 0 ≡ 0 → (contour_at cs i).closes ≡ false
      open_one e = open_if (contour_at cs i).closes (sym (t.mark i (below i h)) ∙ e)

      -- the rule's step between two places
      stepped : (j j' : ℕ) (n m : ℕ) → j < length ns → n ≡ get_or ns j 0 → m ≡ get_or ns j' 0
          → Follows g (get_or ns j 0) (get_or ns j' 0) → Step levels nx ny v n m
      stepped j j' n m k p q f =
          let c = crossing j k in
          rw (p, q) (step levels nx ny v wide (get_or ns j 0) c.0 c.1 (get_or ns j' 0) f)

      steps_at : (j : ℕ) → j + 1 < get_or counts i 0
          → Step levels nx ny v (edge_of edges counts i j) (edge_of edges counts i (j + 1))
      steps_at j k =
          let l : suc j < length ns = omega (arith, t.count i (below i h)) in
          let e : edge_of edges counts i (j + 1) ≡ get_or ns (suc j) 0 =
          ap (edge_of edges counts i) (omega arith) ∙ told (suc j) l in
          stepped j (suc j) _ _ (omega arith) (told j (omega arith)) e (line.follows j l)

      closing_at : get_or closed i 0 ≡ 1
          → Step levels nx ny v (edge_of edges counts i (get_or counts i 0 - 1)) (edge_of edges counts i 0)
      closing_at e =
          stepped (length ns - 1) 0 _ _ (omega (arith, line.some)) last_told_rule (told 0 line.some)
          (line.comes_back (closed_one e))

      comes_in_at : get_or closed i 0 ≡ 0 → ComesIn levels nx ny v (edge_of edges counts i 0)
      comes_in_at e =
          let c = crossing 0 line.some in
          let n = line.enters (open_one e) in
          rw (told 0 line.some) (comes_in levels nx ny v wide (get_or ns 0 0) c.0 c.1 tall n.border.1
          n.enters)

      goes_out_at : get_or closed i 0 ≡ 0
          → GoesOut levels nx ny v (edge_of edges counts i (get_or counts i 0 - 1))
      goes_out_at e =
          let c = crossing (length ns - 1) (omega (arith, line.some)) in
          let n = line.exits (open_one e) in
          rw last_told_rule (goes_out levels nx ny v wide (get_or ns (length ns - 1) 0) c.0 c.1 tall n.border.1
          n.no_next)

      lowest_at : (j : ℕ) → get_or closed i 0 ≡ 1 → j < get_or counts i 0
          → edge_of edges counts i 0 ≤ edge_of edges counts i j
      lowest_at j e k =
          let l = place_below i j h k in
          rw (told 0 line.some, told j l) (line.lowest (closed_one e) j l)

    -- ---- all together

    all_counted : listed ≡ crossed_edges levels nx ny v
    all_counted = t.listed_are ∙ each_listed g (edges_in g) (edges_of cs) each.once ∙ counted levels nx ny v wide

    made : steps_made counts closed contours + open_ones closed contours ≡ crossed_edges levels nx ny v
    made =
        sym (sum_add (λ i. steps_of (get_or counts i 0) (get_or closed i 0)) (λ i. cond (eqb (get_or closed i 0) 0) 1 0)
        contours)
        ∙ sum_same (λ i. steps_of (get_or counts i 0) (get_or closed i 0) + cond (eqb (get_or closed i 0) 0) 1 0)
        (λ i. get_or counts i 0) contours (λ i h. one i h)
        ∙ t.start ∙ all_counted
      where
        one : (i : ℕ) → i < contours
            → steps_of (get_or counts i 0) (get_or closed i 0) + cond (eqb (get_or closed i 0) 0) 1 0
            ≡ get_or counts i 0
        one i h = rw (t.mark i (below i h), t.count i (below i h))
            (steps_and_open (length (edges_at cs i)) (contour_at cs i).closes (line i h).some)

    placed : (place : ℕ) → place < listed → OnContour edges counts contours place
    placed place h =
        let q = in_part (λ k. get_or counts k 0) contours place (omega (arith, t.start)) in
        record {
          i = q.i;
          j = q.j;
          here = record {
            contour = q.low;
            place = q.within;
            number = ap (λ (k : ℕ). get_or edges k 0) (sym q.at);
          };
          at = q.at;
        }

    ordered : (i i' : ℕ) → i < i' → i' < contours → Before edges counts closed i i'
    ordered i i' h k =
        let l : i < contours = omega arith in
        let p = (line i l).some in
        let q = (line i' k).some in
        rw (t.mark i (below i l), t.mark i' (below i' k), told i l 0 p, told i' k 0 q)
        (⊎_elim (λ o. inl (ap bit o.0, ap bit o.1)) (λ o. inr (ap bit o.0, o.1))
        (ordered_at cs each.ordered i i' h (below i' k)))

    pub one_time : OneTime levels nx ny v edges counts closed listed contours
    one_time = record {
      there = t.there;
      all_on = placed;
      ends_there = t.start;
      some = λ i h. rw (t.count i (below i h)) (line i h).some;
      marked = λ i h. rw (t.mark i (below i h)) (mark_of (contour_at cs i).closes);
      once = λ n c. once_told n (on_levels.once n c);
      no_other = λ n i j s. on_levels.no_other n i j (stands_on n i j s);
      all_listed = all_counted;
      steps = λ i j h k. steps_at i h j k;
      closing = closing_at;
      comes_in = comes_in_at;
      goes_out = goes_out_at;
      steps_made_rule = made;
      in_order = ordered;
      lowest = λ i j h e k. lowest_at i h j e k;
    }
