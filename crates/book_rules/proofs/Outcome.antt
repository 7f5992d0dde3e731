-- Every outcome that a call's contract allows means what the rules say. Assumes nothing.
use mathlib.Core.{Path.◌≡◌, Path.refl, Path.sym, Path.ap, Path.subst, Path.◌∙◌, Bool.Bool, Bool.true, Bool.false}
use mathlib.Core.{Logic.⊎_elim, List.List, List.[], List.◌∷◌}
use Prim.Native.Nat.{ℕ, ◌≤◌, ◌<◌}
use native.Mathlib.Omega.{arith}
use lib.{ListN.length, ListN.replicate, ListN.length-replicate, ListN.get_or, Dec.eqb, Dec.ltb}
use borrow.Author.Tests.{le-leb, ltb-true, ltb-false, eqb-true, eqb-false}
use Rattle.refusal.proofs.Ranges.{within_at}
use Rattle.movement.specs.{Limits.max_points, Limits.max_rows, Limits.max_count, Ranges.CountsInRange}
use Rattle.book_rules.specs.{Columns.Book, Calls.Call, Calls.Called}
use Rattle.book_rules.specs.History.{Held, Movement, movement, Made, movements, booked, empty_book, rows_of}
use Rattle.book_rules.specs.{History.sizes_fit, Lookup.found, Lookup.row_held, Lookup.listed, Order.InOrder}
use Rattle.book_rules.specs.History.Held.{none, holds}
use Rattle.book_rules.specs.Lookup.Row.{nowhere}
use Rattle.book_rules.specs.Outcome.{CallHolds, FoundListed, EmptyHolds, MayCountNowhere, FoundAlike}
use Rattle.book_rules.specs.{Outcome.OnlyElsewhere, Reasons.Levels, Calls.Call.supply}
use Rattle.book_rules.proofs.Standing.{AllGood, Below, Rising, zeros_within}
use Rattle.book_rules.proofs.{Reading.book_read, Kept.read_rows, History.told_all, History.history_sound}
use Rattle.book_rules.proofs.{Accepted.after_refused, SoundBook.sound_exactly, Order.refusal_order}
use Rattle.book_rules.proofs.Listed.{none_found, rows_found, listed_none, listed_this, listed_later}
use Rattle.book_rules.proofs.{Listed.below_none, Lookup.enters_freely, Lookup.call_does}

pub call_holds : {p r : ℕ} {b b' : Book} {c : Call} → Called p b c r b' → CallHolds p b c r b'
call_holds {p} {r} {b} {b'} {c} k =
    record {
      order = subst (InOrder p b c) (sym k.answer) (refusal_order p b c);
      accepted = λ z. call_does c (subst (λ n. Called p b c n b') z k);
      refused = λ n. k.book ∙ after_refused p b c (λ z. n (k.answer ∙ z));
    }

pub history_found : (p n : ℕ) (cs : List Made) → FoundListed p n cs
history_found p n cs x l =
    let t = told_all p n cs in
    ap (found x p) t.rows ∙ rows_found x p t.unused (movements p n cs) l t.good

pub empty_holds : (p n : ℕ) → EmptyHolds p n
unfolding empty_book sizes_fit booked
empty_holds p n =
    record {
      rows = length-replicate {A = ℕ} n 0;
      none = λ x l. none_found x p n _ _ _ _ l;
      sound= = λ hp hn.
          (sound_exactly p (empty_book p n)).only
          (history_sound p n [] ∙ rw (
            le-leb 1 p hp.0,
            le-leb p max_points hp.1,
            le-leb 1 n hn.0,
            le-leb n max_rows hn.1,
          ) refl);
    }

pub may_count_nowhere : (p : ℕ) (b : Book) → MayCountNowhere p b
may_count_nowhere p b x t k s m book f heavy range new room =
    let nowhere-at : CountsInRange p (replicate p 0) = record {
      one_a_point_rule = length-replicate {A = ℕ} p 0;
      yes_or_no = λ j h. within_at max_count (replicate p 0) j (zeros_within max_count p);
    } in
    enters_freely p b x t k s m (replicate p 0) book nowhere-at f heavy range new room

pub only_elsewhere : (p : ℕ) (b : Book) (x : ℕ) → OnlyElsewhere p b x
only_elsewhere p b x =
    record {
      everywhere = λ ls one e.
          let first = refusal_order p b (supply x ls) in
          let sound = first.otherwise (λ z. omega (arith, first.given z)) in
          let identity = sound.otherwise (λ z. omega (arith, sound.given z)) in
          let levels = identity.otherwise (λ z. omega (arith, identity.given z)) in
          let stands = levels.otherwise (λ z. omega (arith, levels.given z)) in
          let last = stands.otherwise (λ n. n (λ j h z. absurd (omega (arith, one j h)))) in
          omega arith;
      zeros = λ book range stood.
          let zero_at_lem : (j : ℕ) → get_or (replicate p 0) j 0 ≤ 0 =
          λ j. within_at 0 (replicate p 0) j (zeros_within 0 p) in
          let all : Levels p (replicate p 0) = record {
            number = length-replicate {A = ℕ} p 0;
            range = λ j h. omega (arith, zero_at_lem j);
          } in
          let first = (refusal_order p b (supply x (replicate p 0))).otherwise (λ n. n book) in
          let levels = (first.otherwise (⊎_elim (λ z. omega arith) (λ z. omega arith))).otherwise (λ n. n all) in
          (levels.otherwise stood).otherwise (λ n. n (λ j h z. omega (arith, zero_at_lem j)));
    }

-- Look-up says everything

somewhere : (p : ℕ) (a : Movement) → row_held p a.group a.counts a.held ≡ nowhere → ⊥
unfolding row_held
somewhere p a e = by a.held e
  where
    by : (h : Held) → row_held p a.group a.counts h ≡ nowhere → ⊥
    by none e = let z : ◌≡◌ {A = ℕ} 0 1 = cc in omega arith
    by (holds ls) e = let z : ◌≡◌ {A = ℕ} 0 1 = cc in omega arith

row_same : (p g i : ℕ) (cs ds : List ℕ) (h k : Held) → row_held p g cs h ≡ row_held p i ds k
    → (g ≡ i) × (cs ≡ ds) × (h ≡ k)
unfolding row_held
row_same p g i cs ds none none e = (cc, cc, refl)
row_same p g i cs ds none (holds ls) e = absurd (let z : ◌≡◌ {A = ℕ} 0 1 = cc in omega arith)
row_same p g i cs ds (holds ls) none e = absurd (let z : ◌≡◌ {A = ℕ} 0 1 = cc in omega arith)
row_same p g i cs ds (holds ls) (holds ks) e = (cc, cc, cc)

-- an identity that comes first in one list comes no later in another that is found alike
not_lower : (p : ℕ) (a c : Movement) (ms ns : List Movement) → Rising (c ∷ ns)
    → listed a.identity p (a ∷ ms) ≡ listed a.identity p (c ∷ ns) → a.identity < c.identity → ⊥
not_lower p a c ms ns r e l =
    somewhere p a (sym (listed_this a.identity p a ms refl) ∙ e
    ∙ below_none a.identity p (c ∷ ns) l r)

lists_same : (p : ℕ) (ms ns : List Movement) → AllGood p ms → AllGood p ns → Rising ms → Rising ns
    → ((x : ℕ) → 1 ≤ x → listed x p ms ≡ listed x p ns) → ms ≡ ns
lists_same p [] [] g k r s h = refl
lists_same p [] (c ∷ ns) g k r s h =
    absurd (somewhere p c
    (sym (h c.identity k.0.low ∙ listed_this c.identity p c ns refl) ∙ listed_none c.identity p))
lists_same p (a ∷ ms) [] g k r s h =
    absurd (somewhere p a (sym (listed_this a.identity p a ms refl)
    ∙ h a.identity g.0.low ∙ listed_none a.identity p))
lists_same p (a ∷ ms) (c ∷ ns) g k r s h =
    let here = h a.identity g.0.low in
    let low = not_lower p a c ms ns s here in
    let high = not_lower p c a ns ms r (sym (h c.identity k.0.low)) in
    let e : a.identity ≡ c.identity =
    order (ltb a.identity c.identity) (ltb c.identity a.identity) refl refl low high in
    let w = row_same p a.group c.group a.counts c.counts a.held c.held
    (sym (listed_this a.identity p a ms refl) ∙ here ∙ listed_this a.identity p c ns (sym e)) in
    let rest = lists_same p ms ns g.1 k.1 r.1 s.1 (λ x l. later (eqb a.identity x) x refl l e) in
    λ i. movement (e i) (w.0 i) (w.1 i) (w.2 i) ∷ rest i
  where
    order : (t u : Bool) → ltb a.identity c.identity ≡ t → ltb c.identity a.identity ≡ u
        → (a.identity < c.identity → ⊥) → (c.identity < a.identity → ⊥) → a.identity ≡ c.identity
    order true u x y l m = absurd (l (ltb-true a.identity c.identity x))
    order false true x y l m = absurd (m (ltb-true c.identity a.identity y))
    order false false x y l m =
        omega (arith, ltb-false a.identity c.identity x, ltb-false c.identity a.identity y)

    later : (t : Bool) (x : ℕ) → eqb a.identity x ≡ t → 1 ≤ x → a.identity ≡ c.identity
        → listed x p ms ≡ listed x p ns
    later true x z l e =
        let q = eqb-true a.identity x z in
        below_none x p ms (subst (λ n. Below n ms) q r.0) r.1
        ∙ sym (below_none x p ns (subst (λ n. Below n ns) (sym e ∙ q) s.0) s.1)
    later false x z l e =
        let q = eqb-false a.identity x z in
        sym (listed_later x p a ms q) ∙ h x l ∙ listed_later x p c ns (λ y. q (e ∙ y))

pub found_alike : (p : ℕ) (b b' : Book) → FoundAlike p b b'
found_alike p b b' s s' n h =
    let r = book_read p b ((sound_exactly p b).passes s) in
    let q = book_read p b' ((sound_exactly p b').passes s') in
    let f : (x : ℕ) → 1 ≤ x → found x p b ≡ listed x p r.list =
    λ x l. ap (found x p) (read_rows r) ∙ rows_found x p r.unused r.list l r.good in
    let k : (x : ℕ) → 1 ≤ x → found x p b' ≡ listed x p q.list =
    λ x l. ap (found x p) (read_rows q) ∙ rows_found x p q.unused q.list l q.good in
    let e = lists_same p r.list q.list r.good q.good r.rising q.rising (λ x l. sym (f x l)
    ∙ h x l ∙ k x l) in
    let u : r.unused ≡ q.unused = omega (arith, r.same, q.same, ap length e) in
    read_rows r ∙ (λ i. rows_of p (u i) (e i)) ∙ sym (read_rows q)
