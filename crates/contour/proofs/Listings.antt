-- What buffers hold while contours are listed. Assumes nothing.
use Rattle.std.specs.Prelude.{◌≡◌, ℕ, zero, suc, ◌+◌, ◌-◌, ◌<◌, ◌≤◌, Bool, true, false, cond, ◌&&◌, ◌||◌, List, [], ◌∷◌}
use Rattle.std.specs.Prelude.{◌++◌}
use mathlib.Core.Path.{refl, sym, ap, ◌∙◌, subst}
use mathlib.Core.Bool.{and-false}
use native.Mathlib.{Numerals.add-one, Nat.add-zero, Nat.add-suc, Omega.arith}
use lib.{ListN.length, ListN.drop, ListN.set, ListN.length-set, ListN.length-append, ListN.length-drop, Dec.ltb}
use Rattle.room.specs.Room.{front, put}
use Rattle.room.proofs.{Laws.length-put, Fronts.front_more_rule, Fronts.front_grows}
use Rattle.network.proofs.Refusals.{both}
use Rattle.contour_rules.specs.Picture.{Picture}
use Rattle.contour_rules.specs.Crossings.{crossed_at, enters_at, next_at, edges_in}
use Rattle.contour_rules.specs.Contours.{Contour, bit, waits, waiting, contour_from, without, Listing}
use Rattle.contour_rules.specs.Contours.{swept, none_listed, crossed_to, edges_of}
use Rattle.contour_rules.specs.Contours.{counts_of, closed_of}
use Rattle.contour_rules.proofs.Waiting.{clash, stays_out, length_without, waiting-without, waiting_le, follow_on}
use Rattle.contour_rules.proofs.Waiting.{length_crossed, crossed_waits_all}
use Rattle.contour_rules.proofs.Sums.{edges_append, counts_append, closed_append, length_counts, length_closed}
use Rattle.contour.specs.InnerWalk.{Traced}
use Rattle.contour.specs.InnerDesk.{Desk, desk, Holds, Room, Grows, Sweeps, added, tried}

-- ---- one contour more

-- what waits after a contour was taken waited before
pub before_taken : (list ns : List ℕ) (m : ℕ) → waits (without list ns) m ≡ true → waits list m ≡ true
before_taken list ns m h = go (waits list m) refl
  where
    go : (b : Bool) → waits list m ≡ b → waits list m ≡ true
    go true e = e
    go false e = clash h (stays_out list ns m e)

module _ (g : Picture) (closes : Bool) (d : Desk) (n end : ℕ) (list' edges' : List ℕ) (r : Room g d)
    (w : waits d.list n ≡ true)
    (t : Traced g d.list d.edges d.at n end list' edges') where
  abbrev line : List ℕ
  line = contour_from g d.list n

  abbrev after : Desk
  after = desk list' edges' (set d.counts d.made (end - d.at)) (set d.closed d.made (bit closes)) end
      (d.made + 1)

  -- its edges no longer wait, and it has one at least
  fewer_wait : (waiting list' + length line ≡ waiting d.list) × (0 < length line)
  fewer_wait = (
    ap (λ (l : List ℕ). waiting l + length line) t.taken
        ∙ waiting-without (next_at g) (waiting d.list) d.list n,
    rw (follow_on g d.list n w) (omega arith),
  )

  pub count_fits : (d.made < length d.counts) × (d.made < length d.closed)
  count_fits = (
    omega (arith, fewer_wait.0, fewer_wait.1, r.for_counts),
    omega (arith, fewer_wait.0, fewer_wait.1, r.for_closed),
  )

  pub end_fits : (end ≡ d.at + length line) × (length line ≤ edges_in g)
  end_fits = (t.ends, omega (arith, fewer_wait.0, waiting_le d.list, r.long))

  grown_room : Room g after
  grown_room =
      let f = fewer_wait in
      let l : length edges' ≡ length d.edges =
      ap length t.listed ∙ length-put d.edges d.at line (omega (arith, f.0, r.for_edges)) in
      record {
        long = ap length t.taken ∙ length_without d.list line ∙ r.long;
        only = λ m h. r.only m (before_taken d.list line m
            (subst (λ (l : List ℕ). waits l m ≡ true) t.taken h));
        for_edges = omega (arith, l, f.0, t.ends, r.for_edges);
        for_counts = rw length-set (omega (arith, f.0, f.1, r.for_counts));
        for_closed = rw length-set (omega (arith, f.0, f.1, r.for_closed));
      }

  grown_holds : (l : Listing) (old : Desk) → Holds l old d → Holds (added g closes n l) old after
  grown_holds l old h =
      let c : Contour = record { edges = line; closes = closes } in
      let ne : length (edges_of l.found ++ line) ≡ end = length-append (edges_of l.found) line
      ∙ omega (arith, h.edge_places, t.ends) in
      let fits = count_fits in
      let old-counts : length old.counts ≡ length d.counts =
      sym (ap length h.the_counts
      ∙ front_long (counts_of l.found) old.counts (length d.counts) (ap length h.the_counts)
      (rw (length_counts l.found) (omega (arith, h.contours, fits.0)))) in
      let old-closed : length old.closed ≡ length d.closed =
      sym (ap length h.the_closed
      ∙ front_long (closed_of l.found) old.closed (length d.closed) (ap length h.the_closed)
      (rw (length_closed l.found) (omega (arith, h.contours, fits.1)))) in
      rw (← h.the_list) (record {
        the_list = t.taken;
        the_edges = rw (edges_append l.found c) (t.listed
            ∙ ap (λ (b : List ℕ). put b d.at line) h.the_edges
            ∙ front_grows (edges_of l.found) old.edges d.at line (sym h.edge_places));
        the_counts = rw (counts_append l.found c, ← count)
            (ap (λ (b : List ℕ). set b d.made (end - d.at)) h.the_counts
            ∙ front_more_rule (counts_of l.found) old.counts d.made (end - d.at)
            (length_counts l.found ∙ sym h.contours) (omega (arith, fits.0, old-counts)));
        the_closed = rw (closed_append l.found c)
            (ap (λ (b : List ℕ). set b d.made (bit closes)) h.the_closed
            ∙ front_more_rule (closed_of l.found) old.closed d.made (bit closes)
            (length_closed l.found ∙ sym h.contours) (omega (arith, fits.1, old-closed)));
        edge_places = rw (edges_append l.found c) (sym ne);
        contours = ap (λ (k : ℕ). k + 1) h.contours ∙ sym (length-append l.found (c ∷ []));
      })
    where
      count : end - d.at ≡ length line
      count = omega (arith, t.ends)

      -- a buffer whose front does not fill it is as long as it was
      front_long : (ns b : List ℕ) (k : ℕ) → k ≡ length (front ns b) → length ns < k
          → length (front ns b) ≡ length b
      front_long ns b k e h = let m = length-append ns (drop (length ns) b)
          ∙ ap (λ (i : ℕ). length ns + i) (length-drop (length ns) b) in omega (arith, m)

  pub grown : Grows g (added g closes n) d after
  grown = record { room = grown_room; holds = grown_holds }

-- ---- an edge tried

module _ (g : Picture) (closes : Bool) (n : ℕ) (d : Desk) where
  pub try_passes : Room g d → ((closes || enters_at g n) && waits d.list n) ≡ false
      → Grows g (tried g closes n) d d
  try_passes r t = record {
    room = r;
    holds =
        λ l old h. subst (λ (k : Listing). Holds k old d)
        (sym (ap (λ (b : Bool). cond b (added g closes n l) l) (same l old h))) h;
  }
    where
      same : (l : Listing) (old : Desk) → Holds l old d → ((closes || enters_at g n) && waits l.list n) ≡ false
      same l old h = ap (λ (m : List ℕ). (closes || enters_at g n) && waits m n) (sym h.the_list) ∙ t

-- ---- a sweep

module _ (g : Picture) (closes : Bool) where
  pub sweep_begins : (n : ℕ) (d : Desk) → Room g d → Sweeps g closes n n d d
  sweep_begins n d r = record { room = r; holds = λ l old h. h }

  pub sweep_goes_on : (from n : ℕ) (d₀ d d' : Desk) → Sweeps g closes from n d₀ d
      → Grows g (tried g closes n) d d' → Sweeps g closes from (n + 1) d₀ d'
  unfolding swept
  sweep_goes_on from n d₀ d d' i j =
      rw add-one (record { room = j.room; holds = λ l old h. j.holds (swept g closes l n) old (i.holds l old h) })

  pub sweep_joins : (from n to : ℕ) (d₀ d d' : Desk) → Sweeps g closes from n d₀ d
      → Sweeps g closes n to d d' → Sweeps g closes from to d₀ d'
  sweep_joins from n to d₀ d d' i j = record { room = j.room; holds = λ l old h. j.holds l old (i.holds l old h) }

-- an edge that doesn't wait may be passed over
pub sweep_passes : (g : Picture) (closes : Bool) (from n : ℕ) (d₀ d : Desk) → waits d.list n ≡ false
    → Sweeps g closes from n d₀ d → Sweeps g closes from (n + 1) d₀ d
sweep_passes g closes from n d₀ d h i =
    let t = ap (λ (b : Bool). (closes || enters_at g n) && b) h ∙ and-false (closes || enters_at g n) in
    sweep_goes_on g closes from n d₀ d d i (try_passes g closes n d i.room t)

-- edges where no contour enters may be passed over
pub none_enter : (g : Picture) (l : Listing) (n k : ℕ)
    → ((m : ℕ) → n ≤ m → m < n + k → enters_at g m ≡ false)
    → swept g false l (n + k) ≡ swept g false l n
unfolding swept
none_enter g l n zero h = ap (swept g false l) (add-zero n)
none_enter g l n (suc k) h =
    rw (add-suc n k, h (n + k) (omega arith) (omega arith)) (none_enter g l n k (λ m p q. h m p (omega arith)))

pub sweep_skips : (g : Picture) (from n to : ℕ) (d₀ d : Desk) → n ≤ to
    → ((m : ℕ) → n ≤ m → m < to → enters_at g m ≡ false) → Sweeps g false from n d₀ d
    → Sweeps g false from to d₀ d
sweep_skips g from n to d₀ d h f i =
    let e : n + (to - n) ≡ to = omega arith in
    record {
      room = i.room;
      holds = λ l old k. subst (λ (x : Listing). Holds x old d)
          (sym (none_enter g l n (to - n) (λ m p q. f m p (omega (arith, e)))) ∙ ap (swept g false l) e)
          (i.holds l old k);
    }

-- before anything is listed
pub none_held : (g : Picture) (list edges counts closed : List ℕ) → list ≡ crossed_to g (edges_in g)
    → Holds (none_listed g) (desk list edges counts closed 0 0) (desk list edges counts closed 0 0)
unfolding edges_of counts_of closed_of
none_held g list edges counts closed h =
    record { the_list = h; the_edges = refl; the_counts = refl; the_closed = refl; edge_places = refl; contours = refl }

-- ---- all contours

-- the crossed edges wait, and there is room for every edge
pub first_room : (g : Picture) (list edges counts closed : List ℕ) → list ≡ crossed_to g (edges_in g)
    → edges_in g ≤ length edges → edges_in g ≤ length counts → edges_in g ≤ length closed
    → Room g (desk list edges counts closed 0 0)
first_room g list edges counts closed h p q r =
    let l : length list ≡ edges_in g = ap length h ∙ length_crossed g (edges_in g) in
    record {
      long = l;
      only = λ m w. (both (ltb m (edges_in g)) (crossed_at g m) (sym (crossed_waits_all g (edges_in g) m)
          ∙ ap (λ (x : List ℕ). waits x m) (sym h) ∙ w)).1;
      for_edges = omega (arith, waiting_le list);
      for_counts = omega (arith, waiting_le list);
      for_closed = omega (arith, waiting_le list);
    }
