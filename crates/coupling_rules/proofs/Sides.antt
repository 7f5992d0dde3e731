-- The free tracks as two lists: those before a number, nearest first, and those from it on, nearest first. The best is
-- the
-- first of one of them. Assumes nothing.
use mathlib.Core.{Path.◌≡◌, Path.refl, Path.sym, Path.ap, Path.◌∙◌, Bool.true, List.List, List.[], List.◌∷◌}
use mathlib.Core.{List.◌++◌, Logic.◌⊎◌, Logic.inl, Logic.inr, Logic.⊎_elim}
use Prim.Native.Nat.{ℕ, suc, ◌+◌, ◌≤◌, ◌<◌}
use native.Mathlib.Omega.{arith}
use Rattle.coupling_rules.specs.InnerSides.{In, Chain, Under, Over, Split, Below, From, head_gap}
use Rattle.coupling_rules.specs.Rule.{closer, best, without}
use Rattle.coupling_rules.proofs.{Members.lt_or_is, Members.zero_or, Members.in_append, Members.in_left}
use Rattle.coupling_rules.proofs.{Members.in_right, Members.without_in, Members.in_without, Closer.closer_gap}
use Rattle.coupling_rules.proofs.{Closer.closer_time, Closer.closer_place, Best.best_is_rule, Best.best_none}

-- `rank` is the class and moment of a track as one number
module _ (rank : ℕ → ℕ) where
  -- what a gap has to do with the rank, for a movement of rank `at`
  pub record Gaps (gap time : ℕ → ℕ) (at base : ℕ) : Type 0 where
    pub left_gap : (j : ℕ) → rank j < at → 0 < gap j → gap j + rank j ≡ at + 1
    pub right_gap : (j : ℕ) → at ≤ rank j → 0 < gap j → gap j + at ≡ rank j + 1
    pub left_fits : (x y : ℕ) → rank y ≤ rank x → rank x < at → 0 < gap y → 0 < gap x
    pub right_fits : (x y : ℕ) → rank x ≤ rank y → at ≤ rank x → 0 < gap y → 0 < gap x
    pub own_time : (j : ℕ) → 0 < gap j → time j + base ≡ rank j

  module _ (gap time : ℕ → ℕ) (at base : ℕ) (g : Gaps gap time at base) where
    -- the first of the left is closer than any other of the left that fits
    left_first : (x k : ℕ) → rank x < at → rank k < at → 0 < gap k → (k ≡ x) ⊎ Under rank x k
        → closer gap time x k ≡ true
    left_first x k a b f (inl e) = closer_place gap time x k (ap gap (sym e)) (ap time (sym e)) (omega arith)
    left_first x k a b f (inr (inl h)) =
        let p = g.left_fits x k (omega arith) a f in
        closer_gap gap time x k (omega (arith, g.left_gap x a p, g.left_gap k b f))
    left_first x k a b f (inr (inr (e, h))) =
        let p = g.left_fits x k (omega arith) a f in
        closer_place gap time x k (omega (arith, g.left_gap x a p, g.left_gap k b f))
        (omega (arith, g.own_time x p, g.own_time k f)) (omega arith)

    right_first : (x k : ℕ) → at ≤ rank x → at ≤ rank k → 0 < gap k → (k ≡ x) ⊎ Over rank x k
        → closer gap time x k ≡ true
    right_first x k a b f (inl e) = closer_place gap time x k (ap gap (sym e)) (ap time (sym e)) (omega arith)
    right_first x k a b f (inr (inl h)) =
        let p = g.right_fits x k (omega arith) a f in
        closer_gap gap time x k (omega (arith, g.right_gap x a p, g.right_gap k b f))
    right_first x k a b f (inr (inr (e, h))) =
        let p = g.right_fits x k (omega arith) a f in
        closer_place gap time x k (omega (arith, g.right_gap x a p, g.right_gap k b f))
        (omega (arith, g.own_time x p, g.own_time k f)) (omega arith)

    -- the gap of the first is the least of its side
    left_least : (x k : ℕ) → rank x < at → rank k < at → 0 < gap k → (k ≡ x) ⊎ Under rank x k
        → (0 < gap x) × (gap x ≤ gap k)
    left_least x k a b f (inl e) = (omega (arith, ap gap e), omega (arith, ap gap e))
    left_least x k a b f (inr (inl h)) =
        let p = g.left_fits x k (omega arith) a f in
        (p, omega (arith, g.left_gap x a p, g.left_gap k b f))
    left_least x k a b f (inr (inr (e, h))) =
        let p = g.left_fits x k (omega arith) a f in
        (p, omega (arith, g.left_gap x a p, g.left_gap k b f))

    right_least : (x k : ℕ) → at ≤ rank x → at ≤ rank k → 0 < gap k → (k ≡ x) ⊎ Over rank x k
        → (0 < gap x) × (gap x ≤ gap k)
    right_least x k a b f (inl e) = (omega (arith, ap gap e), omega (arith, ap gap e))
    right_least x k a b f (inr (inl h)) =
        let p = g.right_fits x k (omega arith) a f in
        (p, omega (arith, g.right_gap x a p, g.right_gap k b f))
    right_least x k a b f (inr (inr (e, h))) =
        let p = g.right_fits x k (omega arith) a f in
        (p, omega (arith, g.right_gap x a p, g.right_gap k b f))

    -- one of the left that is no further than one of the right is closer: it is earlier
    left_wins : (x k : ℕ) → rank x < at → at ≤ rank k → 0 < gap x → 0 < gap k
        → (gap x < gap k) ⊎ (gap x ≡ gap k)
        → closer gap time x k ≡ true
    left_wins x k a b f h (inl l) = closer_gap gap time x k l
    left_wins x k a b f h (inr e) = closer_time gap time x k e (omega (arith, g.own_time x f, g.own_time k h))

    at_head : (R : ℕ → ℕ → Type 0) (x : ℕ) (l : List ℕ) → Chain R (x ∷ l) → (k : ℕ)
        → In k (x ∷ l) → (k ≡ x) ⊎ R x k
    at_head R x l c k (inl e) = inl e
    at_head R x l c k (inr m) = inr (c.0 k m)

    -- and so is the gap of the first one
    over_right : (right : List ℕ) → Chain (Over rank) right → From rank at right → (k : ℕ) → In k right
        → 0 < gap k
        → (0 < head_gap gap right) × (head_gap gap right ≤ gap k)
    over_right [] d b k m f = absurd m
    over_right (x ∷ l) d b k m f = right_least x k (b x (inl refl)) (b k m) f (at_head (Over rank) x l d k m)

    over_left : (left : List ℕ) → Chain (Under rank) left → Below rank at left → (k : ℕ) → In k left
        → 0 < gap k
        → (0 < head_gap gap left) × (head_gap gap left ≤ gap k)
    over_left [] d b k m f = absurd m
    over_left (x ∷ l) d b k m f = left_least x k (b x (inl refl)) (b k m) f (at_head (Under rank) x l d k m)

    none_left : (left : List ℕ) → Chain (Under rank) left → Below rank at left → head_gap gap left ≡ 0
        → (k : ℕ) → In k left → gap k ≡ 0
    none_left left d b e k m =
        ⊎_elim (λ z. z) (λ f. absurd (omega (arith, (over_left left d b k m f).0))) (zero_or (gap k))

    none_right : (right : List ℕ) → Chain (Over rank) right → From rank at right → head_gap gap right ≡ 0
        → (k : ℕ) → In k right → gap k ≡ 0
    none_right right d b e k m =
        ⊎_elim (λ z. z) (λ f. absurd (omega (arith, (over_right right d b k m f).0))) (zero_or (gap k))

    -- neither fits: none does
    pub neither : (free left right : List ℕ) → Split rank free left right → Below rank at left
        → From rank at right
        → head_gap gap left ≡ 0 → head_gap gap right ≡ 0 → best gap time free ≡ 0
    neither free left right s b f e h =
        best_none gap time free
        (λ k m. ⊎_elim (none_left left s.down b e k) (none_right right s.up f h k) (s.whole k m))

    -- the left's first is taken
    pub left_best : (free : List ℕ) (x : ℕ) (l right : List ℕ) → Split rank free (x ∷ l) right
        → Below rank at (x ∷ l) → From rank at right → 0 < gap x
        → (head_gap gap right ≡ 0) ⊎ (gap x ≤ head_gap gap right) → best gap time free ≡ suc x
    left_best free x l right s b f p w =
        best_is_rule gap time free x (s.left_in x (inl refl)) p
        (λ k m q. ⊎_elim
        (λ i. left_first x k (b x (inl refl)) (b k i) q (at_head (Under rank) x l s.down k i))
        (λ i. let o = over_right right s.up f k i q in
        left_wins x k (b x (inl refl)) (f k i) p q
        (⊎_elim (λ z. absurd (omega arith)) (λ h. lt_or_is (gap x) (gap k) (omega arith)) w))
        (s.whole k m))

    -- the right's first is taken
    pub right_best : (free left : List ℕ) (y : ℕ) (l : List ℕ) → Split rank free left (y ∷ l)
        → Below rank at left
        → From rank at (y ∷ l) → 0 < gap y → (head_gap gap left ≡ 0) ⊎ (gap y < head_gap gap left)
        → best gap time free ≡ suc y
    right_best free left y l s b f p w =
        best_is_rule gap time free y (s.right_in y (inl refl)) p
        (λ k m q. ⊎_elim
        (λ i. let o = over_left left s.down b k i q in
        closer_gap gap time y k (⊎_elim (λ z. absurd (omega arith)) (λ h. omega arith) w))
        (λ i. right_first y k (f y (inl refl)) (f k i) q (at_head (Over rank) y l s.up k i))
        (s.whole k m))

  -- What is left once a first one is taken

  pub left_taken : (free : List ℕ) (x : ℕ) (l right : List ℕ) → Split rank free (x ∷ l) right
      → Split rank (without x free) l right
  left_taken free x l right s =
      record {
        whole = λ j m. let w = without_in x j free m in
            ⊎_elim (λ i. ⊎_elim (λ e. absurd (w.1 e)) (λ r. inl r) i) (λ i. inr i) (s.whole j w.0);
        left_in = λ j m. in_without x j free
            (λ e. ⊎_elim (λ h. omega (arith, ap rank e)) (λ h. omega arith) (s.down.0 j m))
            (s.left_in j (inr m));
        right_in = λ j m. in_without x j free (λ e. omega (arith, ap rank e, s.apart x j (inl refl) m))
            (s.right_in j m);
        down = s.down.1;
        up = s.up;
        apart = λ a b m n. s.apart a b (inr m) n;
      }

  pub right_taken : (free left : List ℕ) (y : ℕ) (l : List ℕ) → Split rank free left (y ∷ l)
      → Split rank (without y free) left l
  right_taken free left y l s =
      record {
        whole = λ j m. let w = without_in y j free m in
            ⊎_elim (λ i. inl i) (λ i. ⊎_elim (λ e. absurd (w.1 e)) (λ r. inr r) i) (s.whole j w.0);
        left_in = λ j m. in_without y j free (λ e. omega (arith, ap rank e, s.apart j y m (inl refl)))
            (s.left_in j m);
        right_in = λ j m. in_without y j free
            (λ e. ⊎_elim (λ h. omega (arith, ap rank e)) (λ h. omega arith) (s.up.0 j m))
            (s.right_in j (inr m));
        down = s.down;
        up = s.up.1;
        apart = λ a b m n. s.apart a b m (inr n);
      }

  -- A run of equal ranks goes over to the left

  run_chain : (run right left : List ℕ) (q : ℕ) → ((j : ℕ) → In j run → rank j ≡ q)
      → ((j : ℕ) → In j left → rank j < q) → Chain (Over rank) (run ++ right) → Chain (Under rank) left
      → Chain (Under rank) (run ++ left)
  run_chain [] right left q r b up down = down
  run_chain (x ∷ run) right left q r b up down = (
    λ y m. ⊎_elim
        (λ i. let e = r x (inl refl) in let f = r y (inr i) in
        ⊎_elim (λ h. absurd (omega arith)) (λ h. inr (f ∙ sym e, h.1)) (up.0 y (in_left y run right i)))
        (λ i. inl (omega (arith, r x (inl refl), b y i)))
        (in_append y run left m),
    run_chain run right left q (λ j i. r j (inr i)) b up.1 down,
  )

  chain_rest : (R : ℕ → ℕ → Type 0) (run right : List ℕ) → Chain R (run ++ right) → Chain R right
  chain_rest R [] right c = c
  chain_rest R (x ∷ run) right c = chain_rest R run right c.1

  pub run_over : (free left run right : List ℕ) (q : ℕ) → Split rank free left (run ++ right)
      → ((j : ℕ) → In j run → rank j ≡ q) → ((j : ℕ) → In j left → rank j < q)
      → ((j : ℕ) → In j right → q < rank j) → Split rank free (run ++ left) right
  run_over free left run right q s r b h =
      record {
        whole = λ j m. ⊎_elim (λ i. inl (in_right j run left i))
            (λ i. ⊎_elim (λ a. inl (in_left j run left a)) (λ a. inr a) (in_append j run right i)) (s.whole j m);
        left_in = λ j m. ⊎_elim (λ i. s.right_in j (in_left j run right i)) (λ i. s.left_in j i)
            (in_append j run left m);
        right_in = λ j m. s.right_in j (in_right j run right m);
        down = run_chain run right left q r b s.up s.down;
        up = chain_rest (Over rank) run right s.up;
        apart = λ a c m n. ⊎_elim (λ i. omega (arith, r a i, h c n)) (λ i. omega (arith, b a i, h c n))
            (in_append a run left m);
      }
