-- The contours are the only list that has what `EachOnce` asks: any two lists that have it are equal. Assumes nothing.
use mathlib.Core.Path.{◌≡◌, refl, sym, ap, ◌∙◌, subst}
use mathlib.Core.{Bool.Bool, Bool.true, Bool.false, Bool.◌&&◌, Logic.◌⊎◌, Logic.inl, Logic.inr, Logic.⊎_elim}
use mathlib.Core.List.{List, [], ◌∷◌}
use Prim.Native.Nat.{ℕ, ◌≤◌, ◌<◌}
use native.Mathlib.Omega.{arith}
use borrow.Author.Tests.{ltb-true, eq-eqb}
use lib.Dec.{ltb}
use Rattle.network.proofs.{Numbers.number_lt, Refusals.both}
use Rattle.contour_rules.specs.{Picture.Picture, Squares.side_edge}
use Rattle.contour_rules.specs.Crossings.{edges_in, crossed_at, next_at}
use Rattle.contour_rules.specs.Contours.{Contour, bit, contours_of, edges_of}
use Rattle.contour_rules.specs.Once.{occurs, Follows, Enters, Exits, Chain, Sound, AllSound, first_edge}
use Rattle.contour_rules.specs.Once.{Before, All, Ordered, EachOnce}
use Rattle.contour_rules.proofs.{Heading.side_within, Steps.prev_at, Steps.leads_at, Steps.enters_outside}
use Rattle.contour_rules.proofs.{Waiting.clash, Every.every_crossing}
use Rattle.contour_rules.proofs.Occurring.{occurs_here, occurs_later, occurs_not, occurs_cases, first_once}
use Rattle.contour_rules.proofs.Occurring.{each_occurs, first_of, on_contours, on_either}

module _ (g : Picture) (wide : 2 ≤ g.nx) where
  -- ---- along a contour

  -- an edge that leads to n and has the property
  record From (P : ℕ → Type 0) (n : ℕ) : Type 0 where
    from : ℕ
    has : P from
    leads : next_at g from ≡ n

  chain_from : (Last : ℕ → Type 0) (s n : ℕ) (ns : List ℕ) → Chain g Last s ns → 0 < occurs n ns
      → From (λ m. 0 < occurs m (s ∷ ns)) n
  chain_from Last s n [] c h = absurd (occurs_not n h)
  chain_from Last s n (m ∷ ns) c h =
      ⊎_elim
      (λ e. record { from = s; has = occurs_here s (m ∷ ns); leads = c.0.leads ∙ sym e })
      (λ k. let f = chain_from Last m n ns c.1 k in
      record { from = f.from; has = occurs_later f.from s (m ∷ ns) f.has; leads = f.leads })
      (occurs_cases n m ns h)

  chain_end_rule : (s f : ℕ) (ns : List ℕ) → Chain g (λ m. Follows g m f) s ns
      → From (λ m. 0 < occurs m (s ∷ ns)) f
  chain_end_rule s f [] c = record { from = s; has = occurs_here s []; leads = c.leads }
  chain_end_rule s f (m ∷ ns) c = let i = chain_end_rule m f ns c.1 in
      record { from = i.from; has = occurs_later i.from s (m ∷ ns) i.has; leads = i.leads }

  -- an edge of a contour is where it enters, or another of its edges leads to it
  led_to_rule : (closes : Bool) (ns : List ℕ) (n : ℕ) → Sound g closes ns → 0 < occurs n ns
      → ((closes ≡ false) × (first_of ns ≡ n)) ⊎ From (λ m. 0 < occurs m ns) n
  led_to_rule closes [] n s h = absurd s
  led_to_rule false (f ∷ ns) n s h =
      ⊎_elim (λ e. inl (refl, sym e)) (λ k. inr (chain_from (Exits g) f n ns s.1 k)) (occurs_cases n f ns h)
  led_to_rule true (f ∷ ns) n s h =
      ⊎_elim (λ e. inr (subst (From (λ m. 0 < occurs m (f ∷ ns))) (sym e) (chain_end_rule f f ns s.1)))
      (λ k. inr (chain_from (λ m. Follows g m f) f n ns s.1 k)) (occurs_cases n f ns h)

  -- ---- a list of contours, or what is left of one

  record Rest (cs : List Contour) : Type 0 where
    sound : AllSound g cs
    ordered : Ordered cs
    once : (n : ℕ) → occurs n (edges_of cs) ≤ 1
    crosses : (n : ℕ) → 0 < occurs n (edges_of cs) → (n < edges_in g) × (crossed_at g n ≡ true)

  rest : (c : Contour) (cs : List Contour) → Rest (c ∷ cs) → Rest cs
  rest c cs r = record {
    sound = r.sound.1;
    ordered = r.ordered.1;
    once = λ n. omega (arith, r.once n, on_contours n c cs);
    crosses = λ n h. r.crosses n (omega (arith, on_contours n c cs));
  }

  -- no crossed edge leads to one where a contour enters
  none_leads : (n m : ℕ) → Enters g n → m < edges_in g → crossed_at g m ≡ true → next_at g m ≡ n → ⊥
  none_leads n m e l x q =
      let b : next_at g m < edges_in g = subst (λ (k : ℕ). k < edges_in g) (sym q) e.border.0 in
      let p : prev_at g n ≡ m = subst (λ (k : ℕ). prev_at g k ≡ m) q (leads_at g wide m l x b).1 in
      omega (arith, enters_outside g wide n e.border.0 e.enters)

  -- an open contour of the list starts at n
  abbrev OpenAt : ℕ → List Contour → Type 0
  OpenAt n [] = ⊥
  OpenAt n (c ∷ cs) = ((c.closes ≡ false) × (first_edge c ≡ n)) ⊎ OpenAt n cs

  enters_first : (n : ℕ) (cs : List Contour) → Rest cs → Enters g n → 0 < occurs n (edges_of cs) → OpenAt n cs
  unfolding edges_of
  enters_first n [] r e h = occurs_not n h
  enters_first n (c ∷ cs) r e h =
      ⊎_elim
      (λ k. ⊎_elim (λ f. inl f)
      (λ f. let i = r.crosses f.from (omega (arith, f.has, on_contours f.from c cs)) in
      absurd (none_leads n f.from e i.0 i.1 f.leads))
      (led_to_rule c.closes c.edges n r.sound.0 k))
      (λ k. inr (enters_first n cs (rest c cs r) e k)) (on_either n c cs h)

  -- ---- the first contour of a list

  -- if an open contour starts at n, the first one is open and starts no later
  open_later : (d : Contour) (n : ℕ) (cs : List Contour) → All (Before d) cs → OpenAt n cs
      → (d.closes ≡ false) × (first_edge d ≤ n)
  open_later d n [] a o = absurd o
  open_later d n (c ∷ cs) a o =
      ⊎_elim
      (λ p. ⊎_elim (λ b. clash b.1 p.0) (λ b. (b.0 ∙ p.0, omega (arith, b.1, p.1))) a.0)
      (λ p. open_later d n cs a.1 p) o

  open_first : (d : Contour) (n : ℕ) (ds : List Contour) → All (Before d) ds → OpenAt n (d ∷ ds)
      → (d.closes ≡ false) × (first_edge d ≤ n)
  open_first d n ds a o = ⊎_elim (λ p. (p.0, omega (arith, p.1))) (λ p. open_later d n ds a p) o

  -- a closed contour has no edge below its first
  lowest_of : (c : Contour) (n : ℕ) → c.closes ≡ true → Sound g c.closes c.edges
      → 0 < occurs n c.edges → first_edge c ≤ n
  lowest_of c n e s h = go c.edges (subst (λ (b : Bool). Sound g b c.edges) e s) h
    where
      go : (ns : List ℕ) → Sound g true ns → 0 < occurs n ns → first_of ns ≤ n
      go [] s h = absurd s
      go (f ∷ ns) s h = ⊎_elim (λ e. omega arith) (λ k. each_occurs (λ m. f ≤ m) n ns s.0 k)
          (occurs_cases n f ns h)

  -- nor has any after it
  lowest_later : (d : Contour) (n : ℕ) (cs : List Contour) → d.closes ≡ true → All (Before d) cs
      → AllSound g cs → 0 < occurs n (edges_of cs) → first_edge d ≤ n
  unfolding edges_of
  lowest_later d n [] e a s h = absurd (occurs_not n h)
  lowest_later d n (c ∷ cs) e a s h =
      ⊎_elim
      (λ k. ⊎_elim (λ b. clash e b.0) (λ b. omega (arith, b.1, lowest_of c n (sym b.0 ∙ e) s.0 k))
      a.0)
      (λ k. lowest_later d n cs e a.1 s.1 k) (on_either n c cs h)

  lowest_first : (d : Contour) (n : ℕ) (ds : List Contour) → d.closes ≡ true → Rest (d ∷ ds)
      → 0 < occurs n (edges_of (d ∷ ds)) → first_edge d ≤ n
  lowest_first d n ds e r h =
      ⊎_elim (λ k. lowest_of d n e r.sound.0 k) (λ k. lowest_later d n ds e r.ordered.0 r.sound.1 k)
      (on_either n d ds h)

  -- the first edge is on the list; if the contour is open it enters there
  first_on : (c : Contour) (cs : List Contour) → Rest (c ∷ cs) → 0 < occurs (first_edge c) (edges_of (c ∷ cs))
  first_on c cs r = omega (arith, on_contours (first_edge c) c cs, go c.closes c.edges r.sound.0)
    where
      go : (b : Bool) (ns : List ℕ) → Sound g b ns → 0 < occurs (first_of ns) ns
      go b [] s = absurd s
      go b (n ∷ ns) s = occurs_here n ns

  first_enters : (c : Contour) → c.closes ≡ false → Sound g c.closes c.edges → Enters g (first_edge c)
  first_enters c e s = go c.edges (subst (λ (b : Bool). Sound g b c.edges) e s)
    where
      go : (ns : List ℕ) → Sound g false ns → Enters g (first_of ns)
      go [] s = absurd s
      go (n ∷ ns) s = s.0

  -- ---- two contours from one edge

  below : (n m : ℕ) → Follows g n m → m < edges_in g
  below n m f =
      let i = f.neighbours in
      subst (λ (k : ℕ). k < edges_in g) (sym i.second)
      (number_lt g.nx g.ny wide (side_edge i.row i.col i.side')
      (side_within g.nx g.ny i.row i.col i.side' i.within))

  open_same : (n : ℕ) (ns ms : List ℕ) → Chain g (Exits g) n ns → Chain g (Exits g) n ms → ns ≡ ms
  open_same n [] [] p q = refl
  open_same n [] (m ∷ ms) p q = absurd (omega (arith, p.no_next, q.0.leads, below n m q.0))
  open_same n (k ∷ ns) [] p q = absurd (omega (arith, q.no_next, p.0.leads, below n k p.0))
  open_same n (k ∷ ns) (m ∷ ms) p q =
      let e : k ≡ m = sym p.0.leads ∙ q.0.leads in
      let r : ns ≡ ms = open_same m ns ms (subst (λ (i : ℕ). Chain g (Exits g) i ns) e p.1) q.1 in
      cc

  abbrev Round : ℕ → ℕ → List ℕ → Type 0
  Round f n ns = Chain g (λ m. Follows g m f) n ns

  closed_same : (f n : ℕ) (ns ms : List ℕ) → Round f n ns → Round f n ms → occurs f ns ≡ 0
      → occurs f ms ≡ 0 → ns ≡ ms
  unfolding occurs
  closed_same f n [] [] p q a b = refl
  closed_same f n [] (m ∷ ms) p q a b = absurd (omega (arith, ap bit (eq-eqb f m (sym p.leads ∙ q.0.leads))))
  closed_same f n (k ∷ ns) [] p q a b = absurd (omega (arith, ap bit (eq-eqb f k (sym q.leads ∙ p.0.leads))))
  closed_same f n (k ∷ ns) (m ∷ ms) p q a b =
      let e : k ≡ m = sym p.0.leads ∙ q.0.leads in
      let r : ns ≡ ms = closed_same f m ns ms (subst (λ (i : ℕ). Round f i ns) e p.1) q.1 (omega arith)
      (omega arith) in
      cc

  same_edges : (b : Bool) (ns ms : List ℕ) → Sound g b ns → Sound g b ms → first_of ns ≡ first_of ms
      → ((n : ℕ) → occurs n ns ≤ 1) → ((n : ℕ) → occurs n ms ≤ 1) → ns ≡ ms
  same_edges b [] ms s t e p q = absurd s
  same_edges b (n ∷ ns) [] s t e p q = absurd t
  same_edges false (n ∷ ns) (m ∷ ms) s t e p q =
      let r : ns ≡ ms = open_same m ns ms (subst (λ (i : ℕ). Chain g (Exits g) i ns) e s.1) t.1 in
      cc
  same_edges true (n ∷ ns) (m ∷ ms) s t e p q =
      let u : occurs m ns ≡ 0 = subst (λ (i : ℕ). occurs i ns ≡ 0) e (first_once n ns (p n)) in
      let r : ns ≡ ms = closed_same m m ns ms (subst (λ (i : ℕ). Round i i ns) e s.1) t.1 u
      (first_once m ms (q m)) in
      cc

  -- ---- two lists of contours

  -- the first contours close or not, and start, alike
  half : (c d : Contour) (cs ds : List Contour) → Rest (c ∷ cs) → Rest (d ∷ ds)
      → ((n : ℕ) → occurs n (edges_of (c ∷ cs)) ≡ occurs n (edges_of (d ∷ ds)))
      → (c.closes ≡ false → (d.closes ≡ false) × (first_edge d ≤ first_edge c)) × (d.closes ≡ true
      → first_edge d ≤ first_edge c)
  half c d cs ds p q same =
      let on : 0 < occurs (first_edge c) (edges_of (d ∷ ds)) =
      subst (λ (k : ℕ). 0 < k) (same (first_edge c)) (first_on c cs p) in (
        λ e. open_first d (first_edge c) ds q.ordered.0
            (enters_first (first_edge c) (d ∷ ds) q (first_enters c e p.sound.0) on),
        λ e. lowest_first d (first_edge c) ds e q on,
      )

  same_contour : (c d : Contour) (cs ds : List Contour) → Rest (c ∷ cs) → Rest (d ∷ ds)
      → ((n : ℕ) → occurs n (edges_of (c ∷ cs)) ≡ occurs n (edges_of (d ∷ ds))) → c ≡ d
  same_contour c d cs ds p q same =
      go c.closes d.closes refl refl (half c d cs ds p q same) (half d c ds cs q p (λ n. sym (same n)))
    where
      equal : c.closes ≡ d.closes → first_edge d ≤ first_edge c → first_edge c ≤ first_edge d → c ≡ d
      equal e l k =
          let f : first_edge c ≡ first_edge d = omega arith in
          let r : c.edges ≡ d.edges =
          same_edges d.closes c.edges d.edges
          (subst (λ (b : Bool). Sound g b c.edges) e p.sound.0) q.sound.0 f
          (λ n. omega (arith, p.once n, on_contours n c cs)) (λ n. omega (arith, q.once n, on_contours n d ds)) in
          λ i. record { edges = r i; closes = e i }

      go : (a b : Bool) → c.closes ≡ a → d.closes ≡ b
          → (c.closes ≡ false → (d.closes ≡ false) × (first_edge d ≤ first_edge c))
          × (d.closes ≡ true → first_edge d ≤ first_edge c)
          → (d.closes ≡ false → (c.closes ≡ false) × (first_edge c ≤ first_edge d))
          × (c.closes ≡ true → first_edge c ≤ first_edge d) → c ≡ d
      go false b e f h k = let i = h.0 e in equal (e ∙ sym i.0) i.1 (k.0 i.0).1
      go true false e f h k = clash e (k.0 f).0
      go true true e f h k = equal (e ∙ sym f) (h.1 f) (k.1 e)

  same_lists : (cs ds : List Contour) → Rest cs → Rest ds
      → ((n : ℕ) → occurs n (edges_of cs) ≡ occurs n (edges_of ds)) → cs ≡ ds
  unfolding edges_of
  same_lists [] [] p q same = refl
  same_lists [] (d ∷ ds) p q same =
      absurd (occurs_not (first_edge d) (subst (λ (k : ℕ). 0 < k) (sym (same (first_edge d))) (first_on d ds q)))
  same_lists (c ∷ cs) [] p q same =
      absurd (occurs_not (first_edge c) (subst (λ (k : ℕ). 0 < k) (same (first_edge c)) (first_on c cs p)))
  same_lists (c ∷ cs) (d ∷ ds) p q same =
      let e : c ≡ d = same_contour c d cs ds p q same in
      let t : (n : ℕ) → occurs n (edges_of cs) ≡ occurs n (edges_of ds) =
      λ n. omega (
        arith,
        same n,
        on_contours n c cs,
        on_contours n d ds,
        ap (λ (x : Contour). occurs n x.edges) e,
      ) in
      let r : cs ≡ ds = same_lists cs ds (rest c cs p) (rest d ds q) t in
      cc

  -- ---- the theorem

  whole : (cs : List Contour) → EachOnce g cs → Rest cs
  whole cs e = record {
    sound = e.sound;
    ordered = e.ordered;
    once =
        λ n. few (ltb n (edges_in g) && crossed_at g n) (e.once n);
    crosses =
        λ n h. real n (ltb n (edges_in g) && crossed_at g n) refl h (e.once n);
  }
    where
      few : {k : ℕ} (b : Bool) → k ≡ bit b → k ≤ 1
      few true h = omega arith
      few false h = omega arith

      real : (n : ℕ) (b : Bool) → (ltb n (edges_in g) && crossed_at g n) ≡ b → 0 < occurs n (edges_of cs)
          → occurs n (edges_of cs) ≡ bit b → (n < edges_in g) × (crossed_at g n ≡ true)
      real n true e h q = let i = both (ltb n (edges_in g)) (crossed_at g n) e in (ltb-true _ _ i.0, i.1)
      real n false e h q = absurd (omega arith)

  pub only_these : (cs : List Contour) → EachOnce g cs → cs ≡ contours_of g
  only_these cs e = same_lists cs (contours_of g) (whole cs e) (whole (contours_of g) (every_crossing g wide))
      (λ n. e.once n ∙ sym ((every_crossing g wide).once n))
