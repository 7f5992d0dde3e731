-- Every crossing, one time: the contours of a picture hold each crossed edge once and no other, each leads to the
-- next one listed; open ones
-- run from where they enter to where they leave, and closed ones come back to their start, which is their lowest
-- edge. Assumes nothing.
use mathlib.Core.Path.{◌≡◌, refl, sym, ap, ◌∙◌, subst}
use mathlib.Core.Bool.{Bool, true, false, ◌&&◌, ◌||◌, cond}
use mathlib.Core.{Logic.◌⊎◌, Logic.inl, Logic.inr, Logic.⊎_elim, List.List, List.[], List.◌∷◌}
use Prim.Native.Nat.{ℕ, zero, suc, ◌+◌, ◌≤◌, ◌<◌}
use native.Mathlib.Omega.{arith}
use lib.{Dec.ltb, ListN.length, ListN.set}
use Rattle.network.proofs.Refusals.{both}
use Rattle.contour_rules.specs.Picture.{Picture}
use Rattle.contour_rules.specs.Crossings.{edges_in, crossed_at, enters_at, next_at}
use Rattle.contour_rules.specs.Contours.{Contour, bit, waits, waiting, contour_from, without, Listing}
use Rattle.contour_rules.specs.Contours.{add, try, swept, crossed_to, none_listed, open_listed, all_listed}
use Rattle.contour_rules.specs.Contours.{contours_of, edges_of}
use Rattle.contour_rules.specs.Once.{occurs, Neighbours, Follows, Exits, Chain, Each, Sound, AllSound}
use Rattle.contour_rules.specs.Once.{crossings, EachOnce}
use Rattle.contour_rules.proofs.Steps.{prev_at, leads_at, comes_at, next_le, enters_outside, inner_inside}
use Rattle.contour_rules.proofs.Steps.{neighbours_at, enters_border, leaves_border}
use Rattle.contour_rules.proofs.Orders.{in_order}
use Rattle.contour_rules.proofs.Waiting.{is_or_not, clash, waits_lt, waits_set_same, waited, stays_out}
use Rattle.contour_rules.proofs.Waiting.{follow_on, follow_each, follow-occurs, length_crossed, crossed_waits}
use Rattle.contour_rules.proofs.Waiting.{crossed_waits_all}
use Rattle.contour_rules.proofs.Cycles.{Run, Settled, sets_out, to_the_end, returned, settled_left}
use Rattle.contour_rules.proofs.Cycles.{settled_returned, comes_back}
use Rattle.contour_rules.proofs.Sums.{edges_append, all_append, occurs_append, all_steps, fewer, crossings_le}
use Rattle.contour_rules.proofs.Sums.{each_listed}

-- over a sweep what is listed and what waits stay the same together
swept-occurs : (g : Picture) (closes : Bool) (l : Listing) (k n : ℕ)
    → occurs n (edges_of (swept g closes l k).found) + bit (waits (swept g closes l k).list n)
    ≡ occurs n (edges_of l.found) + bit (waits l.list n)
unfolding swept
swept-occurs g closes l zero n = refl
swept-occurs g closes l (suc k) n =
    go (swept g closes l k) ((closes || enters_at g k) && waits (swept g closes l k).list k)
    ∙ swept-occurs g closes l k n
  where
    go : (s : Listing) (b : Bool) → let t = cond b (add closes s (contour_from g s.list k)) s in
        occurs n (edges_of t.found) + bit (waits t.list n) ≡ occurs n (edges_of s.found) + bit
        (waits s.list n)
    go s true =
        let c : Contour = record { edges = contour_from g s.list k; closes = closes } in
        rw (edges_append s.found c)
        (omega (
          arith,
          occurs_append n (edges_of s.found) c.edges,
          follow-occurs (next_at g) (waiting s.list) s.list k n,
        ))
    go s false = refl

module _ (g : Picture) (wide : 2 ≤ g.nx) where
  abbrev pub Closed : List ℕ → Type 0
  Closed list = Settled (edges_in g) (crossed_at g) (next_at g) (prev_at g) (leads_at g wide) list

  -- the start of a contour no longer waits
  start_taken : (list : List ℕ) (k : ℕ) → waits list k ≡ true
      → waits (without list (contour_from g list k)) k ≡ false
  unfolding without
  start_taken list k h = rw (follow_on g list k h)
      (stays_out (set list k 0) (contour_from g (set list k 0) (next_at g k)) k (waits_set_same list k))

  follows : (n m : ℕ) → n < edges_in g → next_at g n ≡ m → m < edges_in g → Follows g n m
  follows n m l e b = record {
    leads = e;
    neighbours =
        subst (Neighbours g n) e (neighbours_at g wide n l (subst (λ (i : ℕ). i < edges_in g) (sym e) b));
  }

  -- a run from edge to edge is a chain
  run_chain : (Last : ℕ → Type 0) (end n : ℕ) (ns : List ℕ) → n < edges_in g
      → Each (λ m. m < edges_in g) ns → Run (next_at g) (next_at g n) ns end
      → ((m : ℕ) → m < edges_in g → next_at g m ≡ end → Last m) → Chain g Last n ns
  run_chain Last end n [] l e r p = p n l r
  run_chain Last end n (m ∷ ms) l e r p =
      (follows n m l (sym r.0) e.0, run_chain Last end m ms e.0 e.1 r.1 p)

  -- the same of a contour from k, all of whose edges have a property
  contour_chain : (Last P : ℕ → Type 0) (list : List ℕ) (k end : ℕ) → length list ≡ edges_in g
      → waits list k ≡ true → Run (next_at g) k (contour_from g list k) end
      → ((m : ℕ) → m < edges_in g → next_at g m ≡ end → Last m)
      → ((m : ℕ) → waits list m ≡ true → P m)
      → Each P (contour_from g (set list k 0) (next_at g k))
      × Chain g Last k (contour_from g (set list k 0) (next_at g k))
  contour_chain Last P list k end long h r p q =
      let ns = contour_from g (set list k 0) (next_at g k) in
      let below : (m : ℕ) → waits list m ≡ true → m < edges_in g =
      λ m w. subst (λ (i : ℕ). m < i) long (waits_lt list m w) in
      let rest : Run (next_at g) (next_at g k) ns end =
      (subst (λ (l : List ℕ). Run (next_at g) k l end) (follow_on g list k h) r).1 in
      let all : (R : ℕ → Type 0) → ((m : ℕ) → waits list m ≡ true → R m) → Each R ns =
      λ R f. follow_each R (next_at g) (waiting (set list k 0)) (set list k 0) (next_at g k)
      (λ m w. f m (waited list k m w)) in
      (all P q, run_chain Last end k ns (below k h) (all (λ m. m < edges_in g) below) rest p)

  -- ---- a line that enters over the border ends at the border

  pub open_ends_at_border : (list : List ℕ) (k : ℕ) → Closed list → enters_at g k ≡ true
      → waits list k ≡ true → Sound g false (contour_from g list k) × Closed (without list (contour_from g list k))
  open_ends_at_border list k c h f =
      let b : k < edges_in g = subst (λ (i : ℕ). k < i) c.long (waits_lt list k f) in
      let x : crossed_at g k ≡ true = (both (crossed_at g k) _ h).0 in
      let o : edges_in g ≤ prev_at g k = enters_outside g wide k b h in
      let w = sets_out (edges_in g) (crossed_at g) (next_at g) (prev_at g) (leads_at g wide) list k c x f in
      let e = to_the_end (edges_in g) (crossed_at g) (next_at g) (prev_at g) (leads_at g wide) k list
      (λ n. n ≤ edges_in g) (λ n l _ _ _. next_le g wide n l) (waiting list) list k (omega arith) w
      (omega arith) in
      let out : e.end < edges_in g → ⊥ = λ i. let r =
      returned (edges_in g) (crossed_at g) (next_at g) (prev_at g) (leads_at g wide) k list _ e.end e.walk
      e.stopped i in omega (arith, r.1.0) in
      let at : e.end ≡ edges_in g = omega (arith, e.kept, not-lt e.end (edges_in g) out) in
      let chain = contour_chain (Exits g) (λ m. m < edges_in g) list k (edges_in g) c.long f
      (subst (Run (next_at g) k (contour_from g list k)) at e.run)
      (λ m l q. record { border = leaves_border g wide m l q; no_next = q })
      (λ m q. subst (λ (i : ℕ). m < i) c.long (waits_lt list m q)) in (
        subst (Sound g false) (sym (follow_on g list k f))
            (record { border = enters_border g wide k b h; enters = h }, chain.1),
        settled_left (edges_in g) (crossed_at g) (next_at g) (prev_at g) (leads_at g wide) k list _ e.end e.walk
            (omega (arith, at)) o,
      )
    where
      not-lt : (a b : ℕ) → (a < b → ⊥) → b ≤ a
      not-lt a b h = omega arith

  -- ---- a line that does not enter over the border comes back to its start

  pub closed_comes_back : (list : List ℕ) (k : ℕ) → Closed list
      → ((m : ℕ) → m < edges_in g → enters_at g m ≡ true → waits list m ≡ false)
      → ((m : ℕ) → m < k → waits list m ≡ false)
      → crossed_at g k ≡ true → waits list k ≡ true
      → Sound g true (contour_from g list k) × Closed (without list (contour_from g list k))
  closed_comes_back list k c enters passed x f =
      let b : k < edges_in g = subst (λ (i : ℕ). k < i) c.long (waits_lt list k f) in
      let e = comes_back (edges_in g) (crossed_at g) (next_at g) (prev_at g) (leads_at g wide)
      (comes_at g wide) list k c b x f inner in
      let r = returned (edges_in g) (crossed_at g) (next_at g) (prev_at g) (leads_at g wide) k list _ e.end e.walk
      e.stopped e.kept in
      let chain = contour_chain (λ m. Follows g m k) (λ m. k ≤ m) list k k c.long f
      (subst (Run (next_at g) k (contour_from g list k)) r.0 e.run)
      (λ m l q. follows m k l q b) (λ m q. not-lt m k (λ i. clash q (passed m i))) in (
        subst (Sound g true) (sym (follow_on g list k f)) chain,
        settled_returned (edges_in g) (crossed_at g) (next_at g) (prev_at g) (leads_at g wide) k list _ e.end
            e.walk e.stopped e.kept,
      )
    where
      not-lt : (a b : ℕ) → (a < b → ⊥) → b ≤ a
      not-lt a b h = omega arith

      inner : (m : ℕ) → m < edges_in g → crossed_at g m ≡ true → waits list m ≡ true
          → prev_at g m < edges_in g
      inner m b x f = go (enters_at g m) refl
        where
          go : (t : Bool) → enters_at g m ≡ t → prev_at g m < edges_in g
          go true h = clash f (enters m b h)
          go false h = inner_inside g wide m b x h

  -- ---- the sweeps

  -- what is listed is sound, only crossed edges wait, and none of those below k that are starts; `closes` says
  -- which starts
  record State (closes : Bool) (l : Listing) (k : ℕ) : Type 0 where
    sound : AllSound g l.found
    settled : Closed l.list
    crossing : (m : ℕ) → waits l.list m ≡ true → crossed_at g m ≡ true
    -- in the second sweep no edge waits where a contour enters
    entering : closes ≡ true → (m : ℕ) → m < edges_in g → enters_at g m ≡ true → waits l.list m ≡ false
    passed : (m : ℕ) → m < k → (closes || enters_at g m) ≡ true → waits l.list m ≡ false

  one : (closes : Bool) (l : Listing) (k : ℕ) → State closes l k → (closes || enters_at g k) ≡ true
      → waits l.list k ≡ true
      → Sound g closes (contour_from g l.list k) × Closed (without l.list (contour_from g l.list k))
  one true l k i h f = closed_comes_back l.list k i.settled (i.entering refl) (λ m b. i.passed m b refl)
      (i.crossing k f) f
  one false l k i h f = open_ends_at_border l.list k i.settled h f

  step : (closes : Bool) (l : Listing) (k : ℕ) → State closes l k → State closes (try g closes l k) (suc k)
  step closes l k i = go (closes || enters_at g k) (waits l.list k) refl refl
    where
      same : (m : ℕ) → m < suc k → (m ≡ k) ⊎ (m < k)
      same m h = ⊎_elim (λ e. inl e) (λ e. inr (omega arith)) (is_or_not m k)

      still : (b : Bool) → ((closes || enters_at g k) ≡ true → waits l.list k ≡ false)
          → State closes l (suc k)
      still b none = record {
        sound = i.sound;
        settled = i.settled;
        crossing = i.crossing;
        entering = i.entering;
        passed = λ m b e. ⊎_elim (λ q. subst (λ (n : ℕ). waits l.list n ≡ false) (sym q)
            (none (subst (λ (n : ℕ). (closes || enters_at g n) ≡ true) q e))) (λ q. i.passed m q e) (same m b);
      }

      go : (a b : Bool) → (closes || enters_at g k) ≡ a → waits l.list k ≡ b
          → State closes (cond (a && b) (add closes l (contour_from g l.list k)) l) (suc k)
      go true true h f =
          let t = contour_from g l.list k in
          let o = one closes l k i h f in
          record {
            sound = all_append g l.found (record { edges = t; closes = closes }) i.sound o.0;
            settled = o.1;
            crossing = λ m w. i.crossing m (was m w);
            entering = λ c m b e. stays_out l.list t m (i.entering c m b e);
            passed = λ m b e. ⊎_elim (λ q. subst (λ (n : ℕ). waits (without l.list t) n ≡ false) (sym q)
                (start_taken l.list k f)) (λ q. stays_out l.list t m (i.passed m q e)) (same m b);
          }
        where
          was : (m : ℕ) → waits (without l.list (contour_from g l.list k)) m ≡ true
              → waits l.list m ≡ true
          was m w = go' (waits l.list m) refl
            where
              go' : (b : Bool) → waits l.list m ≡ b → waits l.list m ≡ true
              go' true q = q
              go' false q = clash w (stays_out l.list (contour_from g l.list k) m q)
      go true false h f = still false (λ _. f)
      go false b h f = still b (λ e. clash e h)

  state_swept : (closes : Bool) (l : Listing) (k : ℕ) → State closes l 0 → State closes (swept g closes l k) k
  unfolding swept
  state_swept closes l zero i = i
  state_swept closes l (suc k) i = step closes (swept g closes l k) k (state_swept closes l k i)

  first_state : State false (none_listed g) 0
  first_state =
      let n = edges_in g in
      let all : (m : ℕ) → m < n → crossed_at g m ≡ true → waits (crossed_to g n) m ≡ true =
      λ m b x. crossed_waits g n m b ∙ x in
      record {
        sound = tt;
        settled = record {
          long = length_crossed g n;
          from = λ m b x h _. clash (all m b x) h;
          onto =
              λ m b x h _. clash (all m b x) h;
        };
        crossing = λ m w. (both (ltb m n) (crossed_at g m) (sym (crossed_waits_all g n m) ∙ w)).1;
        entering = λ c. clash c refl;
        passed = λ m b. absurd (omega arith);
      }

  opened : State true (open_listed g) 0
  opened =
      let o = state_swept false (none_listed g) (edges_in g) first_state in
      record {
        sound = o.sound;
        settled = o.settled;
        crossing = o.crossing;
        entering =
            λ _ m b e. o.passed m b e;
        passed = λ m b. absurd (omega arith);
      }

  listed : State true (all_listed g) (edges_in g)
  listed = state_swept true (open_listed g) (edges_in g) opened

  -- ---- the theorem

  pub listed_once_rule : (n : ℕ) → occurs n (edges_of (contours_of g)) ≡ bit (ltb n (edges_in g) && crossed_at g n)
  unfolding occurs edges_of
  listed_once_rule n =
      let t : bit (waits (crossed_to g (edges_in g)) n) ≡ bit (ltb n (edges_in g) && crossed_at g n) =
      ap bit (crossed_waits_all g (edges_in g) n) in
      let a = swept-occurs g true (open_listed g) (edges_in g) n in
      let b = swept-occurs g false (none_listed g) (edges_in g) n in
      go (waits (all_listed g).list n) refl (omega (arith, a, b, t))
    where
      go : (f : Bool) → waits (all_listed g).list n ≡ f
          → occurs n (edges_of (contours_of g)) + bit f ≡ bit (ltb n (edges_in g) && crossed_at g n)
          → occurs n (edges_of (contours_of g)) ≡ bit (ltb n (edges_in g) && crossed_at g n)
      go true h e = clash h (listed.passed n
          (subst (λ (i : ℕ). n < i) listed.settled.long (waits_lt (all_listed g).list n h)) refl)
      go false h e = omega arith

  pub every_crossing : EachOnce g (contours_of g)
  every_crossing = record {
    once = listed_once_rule;
    sound = listed.sound;
    ordered = in_order g;
    steps_made_rule = all_steps g (contours_of g) listed.sound
        ∙ each_listed g (edges_in g) (edges_of (contours_of g)) listed_once_rule;
  }

  -- so a network has no more edges on contours, and no more contours, than edges
  pub few : (length (edges_of (contours_of g)) ≤ edges_in g) × (length (contours_of g) ≤ edges_in g)
  few =
      let e : length (edges_of (contours_of g)) ≡ crossings g (edges_in g) =
      each_listed g (edges_in g) (edges_of (contours_of g)) listed_once_rule in (
        omega (arith, e, crossings_le g (edges_in g)),
        omega (arith, e, crossings_le g (edges_in g), fewer g (contours_of g) listed.sound),
      )
