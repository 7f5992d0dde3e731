-- Each edge of a network with one point in and the other not stands once in the contours, and no other number does.
-- Assumes nothing.
use mathlib.Core.{Path.◌≡◌, Path.refl, Path.sym, Path.ap, Path.◌∙◌, Bool.Bool, Bool.true, Bool.false, Bool.◌&&◌}
use mathlib.Core.{Logic.◌⊎◌, Logic.inl, Logic.inr, Logic.⊎_elim, List.List, List.[], List.◌∷◌}
use Prim.Native.Nat.{ℕ, zero, suc, ◌≤◌, ◌<◌}
use native.Mathlib.Omega.{arith}
use borrow.Author.Tests.{ltb-true, ltb-false, lt-ltb, eq-eqb, ne_eqb}
use lib.{Dec.ltb, ListN.length, ListN.get_or}
use Rattle.network.specs.declared.Edge.{Edge}
use Rattle.network.specs.declared.Edge.TheVariants.{Horizontal, Vertical}
use Rattle.network.specs.Edges.{edges, number_of, edge_at, WithinEdge}
use Rattle.network.proofs.{Numbers.number_lt, Numbers.edge_within, Numbers.number_at_rule, Refusals.both}
use Rattle.contour_rules.specs.{Picture.Picture, Crossings.crossed, Crossings.edges_in, Crossings.crossed_at}
use Rattle.contour_rules.specs.Contours.{Contour, bit, contours_of, edges_of}
use Rattle.contour_rules.specs.{Once.occurs, Once.EachOnce, Rule.lines, Rule.CrossesExactly}
use Rattle.contour_rules.specs.EachEdge.{StandsAt, StandsOnce, LyingCrossed, StandingCrossed, CrossedNumber}
use Rattle.contour_rules.specs.EachEdge.{EachCrossedEdgeOnce}
use Rattle.contour_rules.proofs.{Waiting.is_or_not, Every.every_crossing, Following.follows_rule}
use Rattle.contour_rules.proofs.Occurring.{on_contours}

-- ---- what stands in a list occurs in it, and what occurs once stands at one place

abbrev At : List ℕ → ℕ → ℕ → Type 0
At ns n j = (j < length ns) × (get_or ns j 0 ≡ n)

at_occurs : (n : ℕ) (ns : List ℕ) (j : ℕ) → At ns n j → 0 < occurs n ns
unfolding occurs
at_occurs n [] j a = absurd (omega (arith, a.0))
at_occurs n (m ∷ ms) zero a = omega (arith, ap bit (eq-eqb n m (sym a.1)))
at_occurs n (m ∷ ms) (suc j) a = omega (arith, at_occurs n ms j (omega (arith, a.0), a.1))

record AtOnce (ns : List ℕ) (n : ℕ) : Type 0 where
  j : ℕ
  here : At ns n j
  only : (j' : ℕ) → At ns n j' → j' ≡ j

at_once : (n : ℕ) (ns : List ℕ) → occurs n ns ≡ 1 → AtOnce ns n
unfolding occurs
at_once n [] h = absurd (omega arith)
at_once n (m ∷ ms) h = ⊎_elim first (λ e. later e (at_once n ms (omega (arith, ap bit (ne_eqb n m e)))))
    (is_or_not n m)
  where
    first : n ≡ m → AtOnce (m ∷ ms) n
    first e = record { j = 0; here = (omega arith, sym e); only = only }
      where
        only : (j' : ℕ) → At (m ∷ ms) n j' → j' ≡ 0
        only zero a = refl
        only (suc j') a = absurd (omega (arith, ap bit (eq-eqb n m e), at_occurs n ms j' (omega (arith, a.0), a.1)))

    later : (n ≡ m → ⊥) → AtOnce ms n → AtOnce (m ∷ ms) n
    later e o = record { j = suc o.j; here = (omega (arith, o.here.0), o.here.1); only = only }
      where
        only : (j' : ℕ) → At (m ∷ ms) n j' → j' ≡ suc o.j
        only zero a = absurd (e (sym a.1))
        only (suc j') a = ap suc (o.only j' (omega (arith, a.0), a.1))

-- ---- the same in the contours

behind_first : {n i j : ℕ} (c : Contour) (cs : List Contour) → StandsAt (c ∷ cs) n (suc i) j → StandsAt cs n i j
behind_first c cs s = record { contour = omega (arith, s.contour); place = s.place; number = s.number }

stands_occurs : (n : ℕ) (cs : List Contour) (i j : ℕ) → StandsAt cs n i j → 0 < occurs n (edges_of cs)
stands_occurs n [] i j s = absurd (omega (arith, s.contour))
stands_occurs n (c ∷ cs) zero j s = omega (arith, on_contours n c cs, at_occurs n c.edges j (s.place, s.number))
stands_occurs n (c ∷ cs) (suc i) j s = omega (arith, on_contours n c cs, stands_occurs n cs i j (behind_first c cs s))

stands_once : (n : ℕ) (cs : List Contour) → occurs n (edges_of cs) ≡ 1 → StandsOnce cs n
unfolding occurs edges_of
stands_once n [] h = absurd (omega arith)
stands_once n (c ∷ cs) h =
    go (ltb 0 (occurs n c.edges)) refl (λ z. stands_once n cs (omega (arith, on_contours n c cs)))
  where
    first : 0 < occurs n c.edges → StandsOnce (c ∷ cs) n
    first l =
        let o = at_once n c.edges (omega (arith, on_contours n c cs)) in
        record {
          i = 0;
          j = o.j;
          here = record { contour = omega arith; place = o.here.0; number = o.here.1 };
          only = only o;
        }
      where
        only : (o : AtOnce c.edges n) (i' j' : ℕ) → StandsAt (c ∷ cs) n i' j' → (i' ≡ 0) × (j' ≡ o.j)
        only o zero j' s = (refl, o.only j' (s.place, s.number))
        only o (suc i') j' s = absurd
            (omega (arith, on_contours n c cs, stands_occurs n cs i' j' (behind_first c cs s)))

    later : occurs n c.edges ≡ 0 → StandsOnce cs n → StandsOnce (c ∷ cs) n
    later l o = record {
      i = suc o.i;
      j = o.j;
      here = record { contour = omega (arith, o.here.contour); place = o.here.place; number = o.here.number };
      only = only;
    }
      where
        only : (i' j' : ℕ) → StandsAt (c ∷ cs) n i' j' → (i' ≡ suc o.i) × (j' ≡ o.j)
        only zero j' s = absurd (omega (arith, at_occurs n c.edges j' (s.place, s.number)))
        only (suc i') j' s =
            let e = o.only i' j' (behind_first c cs s) in
            (ap suc e.0, e.1)

    go : (b : Bool) → ltb 0 (occurs n c.edges) ≡ b → (occurs n c.edges ≡ 0 → StandsOnce cs n)
        → StandsOnce (c ∷ cs) n
    go true e rest = first (ltb-true _ _ e)
    go false e rest =
        let z : occurs n c.edges ≡ 0 = omega (arith, ltb-false 0 (occurs n c.edges) e) in
        later z (rest z)

module _ (levels : List ℕ) (nx ny v : ℕ) (wide : 2 ≤ nx) where
  abbrev g : Picture
  g = lines levels nx ny v

  abbrev rule : (row col : ℕ) → CrossesExactly levels nx ny v row col
  rule = (follows_rule levels nx ny v wide).crosses

  -- ---- the numbers of crossed edges

  of_edge : (n : ℕ) (e : Edge) → WithinEdge nx ny e → number_of nx ny e ≡ n → crossed g e ≡ true
      → CrossedNumber levels nx ny v n
  of_edge n (Horizontal row col) w q x =
      inl (record { row = row; col = col; within = w; number = sym q; one_in = ((rule row col).lying w.0 w.1).0 x })
  of_edge n (Vertical row col) w q x =
      inr (record {
        row = row;
        col = col;
        within = w;
        number = sym q;
        one_in =
            ((rule row col).standing w.0 w.1).0 x;
      })

  pub numbered : (n : ℕ) → (ltb n (edges_in g) && crossed_at g n) ≡ true → CrossedNumber levels nx ny v n
  numbered n h =
      let b = both (ltb n (edges_in g)) (crossed_at g n) h in
      let l = ltb-true n (edges nx ny) b.0 in
      of_edge n (edge_at nx ny n) (edge_within nx ny wide n l) (number_at_rule nx ny wide n l) b.1

  below_crossed : (n : ℕ) → n < edges_in g → crossed_at g n ≡ true
      → (ltb n (edges_in g) && crossed_at g n) ≡ true
  below_crossed n l x = rw (lt-ltb n (edges_in g) l) x

  pub is_crossed_rule : (n : ℕ) → CrossedNumber levels nx ny v n → (ltb n (edges_in g) && crossed_at g n) ≡ true
  is_crossed_rule n c = ⊎_elim lying standing c
    where
      lying : LyingCrossed levels nx ny v n → (ltb n (edges_in g) && crossed_at g n) ≡ true
      lying c =
          rw c.number (below_crossed _ (number_lt nx ny wide (Horizontal c.row c.col) c.within)
          (((rule c.row c.col).lying_at c.within.0 c.within.1).1 c.one_in))

      standing : StandingCrossed levels nx ny v n → (ltb n (edges_in g) && crossed_at g n) ≡ true
      standing c =
          rw c.number (below_crossed _ (number_lt nx ny wide (Vertical c.row c.col) c.within)
          (((rule c.row c.col).standing_at_rule c.within.0 c.within.1).1 c.one_in))

  -- ---- the theorem

  -- of any list that holds each crossed edge of the picture once
  module _ (cs : List Contour) (each : EachOnce g cs) where
    listed : (n : ℕ) → CrossedNumber levels nx ny v n → occurs n (edges_of cs) ≡ 1
    listed n c = each.once n ∙ ap bit (is_crossed_rule n c)

    unless_listed : (n : ℕ) → (CrossedNumber levels nx ny v n) ⊎ (occurs n (edges_of cs) ≡ 0)
    unless_listed n = go (ltb n (edges_in g) && crossed_at g n) refl
      where
        go : (b : Bool) → (ltb n (edges_in g) && crossed_at g n) ≡ b
            → (CrossedNumber levels nx ny v n) ⊎ (occurs n (edges_of cs) ≡ 0)
        go true h = inl (numbered n h)
        go false h = inr (each.once n ∙ ap bit h)

    occurring : (n : ℕ) → 0 < occurs n (edges_of cs) → CrossedNumber levels nx ny v n
    occurring n l = ⊎_elim (λ c. c) (λ z. absurd (omega arith)) (unless_listed n)

    pub said_of_levels : EachCrossedEdgeOnce levels nx ny v cs
    said_of_levels = record {
      once = λ n c. stands_once n cs (listed n c);
      no_other = λ n i j s. occurring n (stands_occurs n cs i j s);
      listed_once_rule = λ n. (λ h. occurring n (omega arith), listed n);
      no_other_listed = λ n. (
        λ h c. omega (arith, listed n c),
        λ h. ⊎_elim (λ c. absurd (h c)) (λ z. z)
            (unless_listed n),
      );
    }

  pub each_crossed_edge_once : EachCrossedEdgeOnce levels nx ny v (contours_of g)
  each_crossed_edge_once = said_of_levels (contours_of g) (every_crossing g wide)
