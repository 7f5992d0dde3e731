-- No other numbers hold every crossing one time: read back, they are the contours of the network. Assumes nothing.
use mathlib.Core.Path.{◌≡◌, refl, sym, ap, ◌∙◌, subst}
use mathlib.Core.{Bool.Bool, Bool.true, Bool.false, Bool.◌&&◌, List.List, List.[], List.◌∷◌}
use mathlib.Core.Logic.{inl, inr, ⊎_elim}
use Prim.Native.Nat.{ℕ, zero, suc, ◌+◌, ◌-◌, ◌≤◌, ◌<◌}
use native.Mathlib.Omega.{arith}
use borrow.Author.Tests.{eq-eqb, ne_eqb}
use lib.{Dec.ltb, ListN.length, ListN.get_or, ListN.take}
use lib.{Seq.length-take-le, Seq.get_or-take}
use Rattle.contour_rules.specs.{Picture.Picture, Crossings.edges_in, Crossings.crossed_at, Rule.lines}
use Rattle.contour_rules.specs.Contours.{Contour, bit, contours_of, edges_of, counts_of, closed_of}
use Rattle.contour_rules.specs.Once.{occurs, Follows, Enters, Exits, AllSound}
use Rattle.contour_rules.specs.Once.{sum_to, EachOnce, Before as ListedBefore}
use Rattle.contour_rules.specs.EachEdge.{edges_at, CrossedNumber}
use Rattle.contour_rules.proofs.Sums.{length_counts, all_steps, sum_same, each_listed}
use Rattle.contour_rules.proofs.{Waiting.is_or_not, Waiting.clash, Only.only_these}
use Rattle.contour_rules.proofs.EachEdge.{numbered, is_crossed_rule}
use Rattle.contour.specs.Told.{contours_told}
use Rattle.crossing_rules.specs.OneTime.{start_of, edge_of, OneTime, StandsAt, Same}
use Rattle.crossing_rules.proofs.Places.{ByPlace, sound_of_rule, all_sound, ordered_of}
use Rattle.crossing_rules.proofs.Reading.{Adds, read_edges, read_counts, read_marks}
use Rattle.crossing_rules.proofs.{Reading.contour_at, Reading.Tells, Reading.tells, Back.follows, Back.enters}
use Rattle.crossing_rules.proofs.{Back.exits, Every.in_part, Every.open_if, Every.closes_if}

-- ---- from places to lists

occurs_none : (n : ℕ) (ns : List ℕ) → ((j : ℕ) → j < length ns → get_or ns j 0 ≡ n → ⊥) → occurs n ns ≡ 0
unfolding occurs
occurs_none n [] h = refl
occurs_none n (m ∷ ns) h =
    omega (
      arith,
      ap bit (ne_eqb n m (λ e. h 0 (omega arith) (sym e))),
      occurs_none n ns (λ j l. h (suc j) (omega arith)),
    )

occurs_one : (n : ℕ) (ns : List ℕ) (j : ℕ) → j < length ns → get_or ns j 0 ≡ n
    → ((j' : ℕ) → j' < length ns → get_or ns j' 0 ≡ n → j' ≡ j) → occurs n ns ≡ 1
unfolding occurs
occurs_one n [] j l e h = absurd (omega arith)
occurs_one n (m ∷ ns) zero l e h =
    omega (
      arith,
      ap bit (eq-eqb n m (sym e)),
      occurs_none n ns (λ j k q. omega (arith, h (suc j) (omega arith) q)),
    )
occurs_one n (m ∷ ns) (suc j) l e h =
    omega (
      arith,
      ap bit (ne_eqb n m (λ q. omega (arith, h 0 (omega arith) (sym q)))),
      occurs_one n ns j (omega arith) e (λ j' k q. omega (arith, h (suc j') (omega arith) q)),
    )

bit_same : (a b : Bool) → bit a ≡ bit b → a ≡ b
bit_same true true e = refl
bit_same true false e = absurd (omega arith)
bit_same false true e = absurd (omega arith)
bit_same false false e = refl

-- a place of a part is one of the whole
part_below_lem : (f : ℕ → ℕ) (n i j : ℕ) → i < n → j < f i → sum_to f i + j < sum_to f n
unfolding sum_to
part_below_lem f zero i j h k = absurd (omega arith)
part_below_lem f (suc n) i j h k = ⊎_elim (λ e. omega (arith, ap f e, ap (sum_to f) e))
    (λ e. omega (arith, part_below_lem f n i j (omega arith) k)) (is_or_not i n)

-- two answers that tell the same contours list the same numbers
same_told : (cs : List Contour) (edges counts closed : List ℕ) (listed contours : ℕ)
    (edges' counts' closed' : List ℕ) (listed' contours' : ℕ) → Tells cs edges counts closed listed contours
    → Tells cs edges' counts' closed' listed' contours'
    → Same edges counts closed listed contours edges' counts' closed' listed' contours'
same_told cs edges counts closed listed contours edges' counts' closed' listed' contours' t t' = record {
  as_many = (t.listed_are ∙ sym t'.listed_are, t.contours_are ∙ sym t'.contours_are);
  same_edges = λ place l.
      let q = in_part (λ k. get_or counts k 0) contours place (omega (arith, t.start)) in
      let h = low q.i q.low in
      let k : q.j < length (edges_at cs q.i) = omega (arith, q.within, t.count q.i h) in
      ap (λ (p : ℕ). get_or edges p 0) q.at ∙ t.edge q.i q.j h k ∙ sym (t'.edge q.i q.j h k)
      ∙ ap (λ (p : ℕ). get_or edges' p 0) (ap (λ (s : ℕ). s + q.j) (starts q.i q.low) ∙ sym q.at);
  same_counts = λ i l. count i l;
  same_marks = λ i l. t.mark i (low i l) ∙ sym (t'.mark i (low i l));
}
  where
    low : (i : ℕ) → i < contours → i < length cs
    low i l = omega (arith, t.contours_are)

    count : (i : ℕ) → i < contours → get_or counts i 0 ≡ get_or counts' i 0
    count i l = t.count i (low i l) ∙ sym (t'.count i (low i l))

    starts : (i : ℕ) → i < contours → start_of counts' i ≡ start_of counts i
    starts i l = sum_same (λ k. get_or counts' k 0) (λ k. get_or counts k 0) i (λ k m. sym (count k (omega arith)))

-- ---- the theorem

module _ (levels : List ℕ) (nx ny v : ℕ) (wide : 2 ≤ nx) where
  abbrev g : Picture
  g = lines levels nx ny v

  module _ (edges counts closed : List ℕ) (listed contours : ℕ)
      (o : OneTime levels nx ny v edges counts closed listed contours) where
    abbrev es : List ℕ
    es = take listed edges

    abbrev ms : List ℕ
    ms = take contours counts

    abbrev ks : List ℕ
    ks = take contours closed

    abbrev cs : List Contour
    cs = contours_told es ms ks

    long_es : length es ≡ listed
    long_es = length-take-le listed edges o.there.0

    long_ms : length ms ≡ contours
    long_ms = length-take-le contours counts o.there.1.0

    long_ks : length ks ≡ contours
    long_ks = length-take-le contours closed o.there.1.1

    adds : Adds es ms
    adds = ap (start_of ms) long_ms
        ∙ sum_same (λ k. get_or ms k 0) (λ k. get_or counts k 0) contours (λ k l. get_or-take contours counts k 0 l)
        ∙ o.ends_there ∙ sym long_es

    its_edges : edges_of cs ≡ es
    its_edges = read_edges es ms ks adds

    its_counts : counts_of cs ≡ ms
    its_counts = read_counts es ms ks adds

    its_marks : closed_of cs ≡ ks
    its_marks = read_marks es ms ks (long_ks ∙ sym long_ms)
        (λ i l. rw (get_or-take contours closed i 0 (omega (arith, long_ks))) (o.marked i (omega (arith, long_ks))))

    told : Tells cs edges counts closed listed contours
    told = tells cs edges counts closed listed contours o.there (sym (ap length its_edges ∙ long_es))
        (sym (sym (length_counts cs) ∙ ap length its_counts ∙ long_ms))
        (λ p l. sym (ap (λ (t : List ℕ). get_or t p 0) its_edges ∙ get_or-take listed edges p 0 l))
        (λ i l. sym (ap (λ (t : List ℕ). get_or t i 0) its_counts ∙ get_or-take contours counts i 0 l))
        (λ i l. sym (ap (λ (t : List ℕ). get_or t i 0) its_marks ∙ get_or-take contours closed i 0 l))

    -- ---- each crossed edge once

    listed_at : (p : ℕ) → p < length es → get_or es p 0 ≡ get_or edges p 0
    listed_at p l = get_or-take listed edges p 0 (omega (arith, long_es))

    -- a listed number stands on a contour
    record Stands (n p : ℕ) : Type 0 where
      i : ℕ
      j : ℕ
      here : StandsAt edges counts contours n i j
      at : p ≡ start_of counts i + j

    stands : (n p : ℕ) → p < length es → get_or es p 0 ≡ n → Stands n p
    stands n p l e =
        let q = o.all_on p (omega (arith, long_es)) in
        record {
          i = q.i;
          j = q.j;
          here = subst (λ (m : ℕ). StandsAt edges counts contours m q.i q.j) (sym (listed_at p l) ∙ e)
              q.here;
          at = q.at;
        }

    one : (n : ℕ) → CrossedNumber levels nx ny v n → occurs n es ≡ 1
    one n c =
        let s = o.once n c in
        let p = start_of counts s.i + s.j in
        let l : p < length es = omega (
          arith,
          long_es,
          o.ends_there,
          part_below_lem (λ k. get_or counts k 0) contours s.i s.j s.here.contour s.here.place,
        ) in
        occurs_one n es p l (listed_at p l ∙ s.here.number) (λ p' l' e.
        let q = stands n p' l' e in
        let u = s.only q.i q.j q.here in
        omega (arith, q.at, u.1, ap (start_of counts) u.0))

    none : (n : ℕ) → (CrossedNumber levels nx ny v n → ⊥) → occurs n es ≡ 0
    none n h = occurs_none n es (λ p l e. let q = stands n p l e in h (o.no_other n q.i q.j q.here))

    once : (n : ℕ) → occurs n (edges_of cs) ≡ bit (ltb n (edges_in g) && crossed_at g n)
    once n = ap (occurs n) its_edges ∙ go (ltb n (edges_in g) && crossed_at g n) refl
      where
        go : (b : Bool) → (ltb n (edges_in g) && crossed_at g n) ≡ b → occurs n es ≡ bit b
        go true e = one n (numbered levels nx ny v wide n e)
        go false e = none n (λ c. clash (is_crossed_rule levels nx ny v wide n c) e)

    -- ---- each contour sound, and all in order

    module _ (i : ℕ) (h : i < length cs) where
      abbrev ns : List ℕ
      ns = edges_at cs i

      low : i < contours
      low = omega (arith, told.contours_are)

      edge : (j : ℕ) → j < length ns → edge_of edges counts i j ≡ get_or ns j 0
      edge j l = told.edge i j h l

      some : 1 ≤ length ns
      some = omega (arith, o.some i low, told.count i h)

      last : edge_of edges counts i (get_or counts i 0 - 1) ≡ get_or ns (length ns - 1) 0
      last = ap (edge_of edges counts i) (ap (λ (n : ℕ). n - 1) (told.count i h))
          ∙ edge (length ns - 1) (omega (arith, some))

      by_place : ByPlace g (contour_at cs i).closes ns
      by_place = record {
        some = some;
        follows = λ j l. subst (λ (m : ℕ). Follows g m (get_or ns (suc j) 0)) (edge j (omega arith))
            (subst (λ (m : ℕ). Follows g (edge_of edges counts i j) m) (ap (edge_of edges counts i) (omega arith)
            ∙ edge (suc j) l) (follows levels nx ny v wide _ _ (o.steps i j low (omega (arith, told.count i h)))));
        comes_back = λ e. subst (λ (m : ℕ). Follows g m (get_or ns 0 0)) last
            (subst (λ (m : ℕ). Follows g (edge_of edges counts i (get_or counts i 0 - 1)) m) (edge 0 some)
            (follows levels nx ny v wide _ _ (o.closing i low (told.mark i h ∙ ap bit e))));
        enters = λ e. subst (Enters g) (edge 0 some)
            (enters levels nx ny v wide _ (o.comes_in i low (told.mark i h ∙ ap bit e)));
        exits = λ e. subst (Exits g) last
            (exits levels nx ny v wide _ (o.goes_out i low (told.mark i h ∙ ap bit e)));
        lowest = λ e j l. rw (sym (edge 0 some), sym (edge j l))
            (o.lowest i j low (told.mark i h ∙ ap bit e) (omega (arith, told.count i h)));
      }

    in_order : (i i' : ℕ) → i < i' → i' < length cs → ListedBefore (contour_at cs i) (contour_at cs i')
    in_order i i' l h =
        let k : i < length cs = omega arith in
        let m = told.mark i k in
        let m' = told.mark i' h in
        ⊎_elim
        (λ b. inl (
          open_if (contour_at cs i).closes (sym m ∙ b.0),
          closes_if (contour_at cs i').closes (sym m' ∙ b.1),
        ))
        (λ b. inr (
          bit_same (contour_at cs i).closes (contour_at cs i').closes (sym m ∙ b.0 ∙ m'),
          omega (arith, b.1, edge i k 0 (some i k), edge i' h 0 (some i' h)),
        ))
        (o.in_order i i' l (low i' h))

    sound : AllSound g cs
    sound = all_sound g cs (λ i h. sound_of_rule g (contour_at cs i).closes (edges_at cs i) (by_place i h))

    each : EachOnce g cs
    each = record {
      once = once;
      sound = sound;
      ordered = ordered_of cs in_order;
      steps_made_rule = all_steps g cs sound ∙ each_listed g (edges_in g) (edges_of cs) once;
    }

    -- read back, the numbers are the contours
    pub are_the_contours : Tells (contours_of g) edges counts closed listed contours
    are_the_contours = subst (λ (ds : List Contour). Tells ds edges counts closed listed contours)
        (only_these g wide cs each) told

  -- so whoever has such numbers has these
  pub no_other_numbers : (edges counts closed : List ℕ) (listed contours : ℕ)
      (edges' counts' closed' : List ℕ) (listed' contours' : ℕ)
      → OneTime levels nx ny v edges counts closed listed contours
      → OneTime levels nx ny v edges' counts' closed' listed' contours'
      → Same edges counts closed listed contours edges' counts' closed' listed' contours'
  no_other_numbers edges counts closed listed contours edges' counts' closed' listed' contours' o o' =
      let t = are_the_contours edges counts closed listed contours o in
      let t' = are_the_contours edges' counts' closed' listed' contours' o' in
      same_told (contours_of g) edges counts closed listed contours edges' counts' closed' listed' contours' t t'
