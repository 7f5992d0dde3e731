-- The packed columns give the rule's own answers: two flights are of one class number exactly if class, kind, runway,
-- airport and type designator are equal, so each gap that is met is the rule's. Assumes nothing.
use mathlib.Core.{Path.◌≡◌, Path.refl, Path.sym, Path.ap, Path.◌∙◌, Bool.Bool, Bool.true, Bool.false, Bool.cond}
use mathlib.Core.{Bool.not, Bool.◌&&◌, List.List}
use Prim.Native.Nat.{ℕ, ◌+◌, ◌≤◌, ◌<◌}
use native.Mathlib.Omega.{arith}
use lib.{Dec.eqb, Dec.ltb, Dec.leb, ListN.length, ListN.get_or, ListN.replicate, ListN.length-replicate}
use borrow.Author.Tests.{eqb-true, eqb-false, eq-eqb, ltb-true, ltb-false, le-ltb, le-leb, lt-leb}
use Rattle.refusal.proofs.{Laws.and_left, Laws.and_right, Ranges.within_at}
use Rattle.sorting.specs.Sorted.{key_of, sorted}
use Rattle.room.specs.Room.{front}
use Rattle.coupling_rules.specs.Flights.{Flights, Movements, many}
use Rattle.coupling_rules.specs.Rule.{moment_of, distance, agree, window_of, takes_none, fits, gap, couple}
use Rattle.coupling_rules.specs.Rule.{places, turns_of, tracks_for}
use Rattle.coupling_rules.specs.InnerPacked.{high_of, low_of, Packed, Packs, class_in, moment_in, reach_of}
use Rattle.coupling_rules.specs.{InnerPacked.gap_between, InnerPacked.gaps_in, InnerSides.In}
use Rattle.coupling_rules.proofs.{Gapped.ranked_same, Refusing.Values, Orders.sorted_in, Orders.in_sorted}
use Rattle.coupling_rules.proofs.{Orders.places_in, Orders.in_places, Same.sorted_same, Same.couple_same}
use Rattle.coupling_rules.proofs.{Same.length_couple, Same.couple_front}

-- Numbers put together

low_same : (r s c d k l : ℕ) → c ≤ 1 → d ≤ 1 → k ≤ 1 → l ≤ 1 → low_of r c k ≡ low_of s d l
    → (r ≡ s) × ((c ≡ d) × (k ≡ l))
low_same r s c d k l p q u v e = (omega arith, (omega arith, omega arith))

low_small : (r c k : ℕ) → r < 4294967296 → c ≤ 1 → k ≤ 1 → low_of r c k < 18446744073709551616
low_small r c k h p q = omega arith

high_same : (a b x y : ℕ) → x < 4294967296 → y < 4294967296 → high_of a x ≡ high_of b y
    → (a ≡ b) × (x ≡ y)
high_same a b x y h k e = (omega arith, omega arith)

-- a test that says the same
eqb_by : (a b : ℕ) (c t : Bool) → eqb a b ≡ t → (a ≡ b → c ≡ true) → (c ≡ true → a ≡ b)
    → t ≡ c
eqb_by a b c true e f g = sym (f (eqb-true a b e))
eqb_by a b true false e f g = absurd (eqb-false a b e (g refl))
eqb_by a b false false e f g = refl

eqb_is : (a b : ℕ) (c : Bool) → (a ≡ b → c ≡ true) → (c ≡ true → a ≡ b) → eqb a b ≡ c
eqb_is a b c f g = eqb_by a b c (eqb a b) refl f g

-- What agrees

pub record Agreed (m : Flights) (i : ℕ) (t : Flights) (j : ℕ) : Type 0 where
  pub class : get_or m.classes i 0 ≡ get_or t.classes j 0
  pub kind : get_or m.kinds i 0 ≡ get_or t.kinds j 0
  pub runway : get_or m.runways i 0 ≡ get_or t.runways j 0
  pub airport : get_or m.airports i 0 ≡ get_or t.airports j 0
  pub type : get_or m.types i 0 ≡ get_or t.types j 0

pub agree_says : (m : Flights) (i : ℕ) (t : Flights) (j : ℕ) → agree m i t j ≡ true → Agreed m i t j
unfolding agree
agree_says m i t j e =
    let a = and_right (eqb (get_or m.classes i 0) (get_or t.classes j 0)) _ e in
    let b = and_right (eqb (get_or m.kinds i 0) (get_or t.kinds j 0)) _ a in
    let c = and_right (eqb (get_or m.runways i 0) (get_or t.runways j 0)) _ b in
    record {
      class = eqb-true _ _ (and_left (eqb (get_or m.classes i 0) (get_or t.classes j 0)) _ e);
      kind = eqb-true _ _ (and_left (eqb (get_or m.kinds i 0) (get_or t.kinds j 0)) _ a);
      runway = eqb-true _ _ (and_left (eqb (get_or m.runways i 0) (get_or t.runways j 0)) _ b);
      airport = eqb-true _ _ (and_left (eqb (get_or m.airports i 0) (get_or t.airports j 0)) _ c);
      type = eqb-true _ _ (and_right (eqb (get_or m.airports i 0) (get_or t.airports j 0)) _ c);
    }

pub says_agree : (m : Flights) (i : ℕ) (t : Flights) (j : ℕ) → Agreed m i t j → agree m i t j ≡ true
unfolding agree
says_agree m i t j a =
    rw (
      eq-eqb _ _ a.class,
      eq-eqb _ _ a.kind,
      eq-eqb _ _ a.runway,
      eq-eqb _ _ a.airport,
      eq-eqb _ _ a.type,
    )

-- runways and types as they stand in columns of 32 bits
pub record Narrow (f : Flights) : Type 0 where
  pub runway : (i : ℕ) → get_or f.runways i 0 < 4294967296
  pub type : (i : ℕ) → get_or f.types i 0 < 4294967296

module _ (m : Flights) (t : Flights) (pm pt : Packed) (vm : Values m) (vt : Values t) (nm : Narrow m) (nt : Narrow t)
    (km : Packs m pm) (kt : Packs t pt) (i j : ℕ) (hi : i < many m) (hj : j < many t) where
  low_m : key_of pm.lows i < 18446744073709551616
  low_m =
      let b = low_small (get_or m.runways i 0) (get_or m.classes i 0) (get_or m.kinds i 0) (nm.runway i)
      (within_at 1 m.classes i vm.classes) (within_at 1 m.kinds i vm.kinds) in
      omega (arith, km.low i hi)

  low_t : key_of pt.lows j < 18446744073709551616
  low_t =
      let b = low_small (get_or t.runways j 0) (get_or t.classes j 0) (get_or t.kinds j 0) (nt.runway j)
      (within_at 1 t.classes j vt.classes) (within_at 1 t.kinds j vt.kinds) in
      omega (arith, kt.low j hj)

  one_class : class_in pt j ≡ class_in pm i → Agreed m i t j
  one_class e =
      let s = ranked_same (key_of pt.highs j) (key_of pt.lows j) (key_of pm.highs i) (key_of pm.lows i) low_t
      low_m e in
      let h = high_same (get_or m.airports i 0) (get_or t.airports j 0) (get_or m.types i 0) (get_or t.types j 0)
      (nm.type i) (nt.type j) (sym (km.high i hi) ∙ sym s.0 ∙ kt.high j hj) in
      let l = low_same (get_or m.runways i 0) (get_or t.runways j 0) (get_or m.classes i 0) (get_or t.classes j 0)
      (get_or m.kinds i 0) (get_or t.kinds j 0) (within_at 1 m.classes i vm.classes)
      (within_at 1 t.classes j vt.classes) (within_at 1 m.kinds i vm.kinds)
      (within_at 1 t.kinds j vt.kinds) (sym (km.low i hi) ∙ sym s.1 ∙ kt.low j hj) in
      record { class = l.1.0; kind = l.1.1; runway = l.0; airport = h.0; type = h.1 }

  class_one : Agreed m i t j → class_in pt j ≡ class_in pm i
  class_one a =
      rw (km.high i hi, km.low i hi, kt.high j hj, kt.low j hj, a.class, a.kind, a.runway, a.airport, a.type)

  class_agrees : eqb (class_in pt j) (class_in pm i) ≡ agree m i t j
  class_agrees =
      eqb_is (class_in pt j) (class_in pm i) (agree m i t j) (λ e. says_agree m i t j (one_class e))
      (λ e. class_one (agree_says m i t j e))

-- One gap

within_by : (d w : ℕ) (b : Bool) → ltb d (w + 1) ≡ b → b ≡ leb d w
within_by d w true e = let h = ltb-true d (w + 1) e in sym (le-leb d w (omega arith))
within_by d w false e = let h = ltb-false d (w + 1) e in sym (lt-leb d w (omega arith))

gap_by : (none agrees : Bool) (d w : ℕ)
    → cond agrees (cond (ltb d (cond none 0 (w + 1))) (d + 1) 0) 0 ≡ cond (not none && (agrees && leb d w))
    (d + 1) 0
gap_by true true d w = rw (le-ltb d 0 (omega arith))
gap_by true false d w = refl
gap_by false true d w = rw (within_by d w (ltb d (w + 1)) refl)
gap_by false false d w = refl

module _ (m : Movements) (t : Flights) (pm pt : Packed) (vm : Values m.flights) (vt : Values t)
    (nm : Narrow m.flights) (nt : Narrow t) (km : Packs m.flights pm) (kt : Packs t pt) where
  moment_m : (i : ℕ) → i < many m.flights → moment_in pm i ≡ moment_of m.flights i
  unfolding moment_of
  moment_m i h = km.at i h

  moment_t : (j : ℕ) → j < many t → moment_in pt j ≡ moment_of t j
  unfolding moment_of
  moment_t j h = kt.at j h

  gap_same : (i j : ℕ) → i < many m.flights → j < many t
      → gaps_in pt pm m.flights.classes m.circuits i j ≡ gap m t i j
  unfolding gap_between gap fits reach_of
  gap_same i j hi hj =
      let class = get_or m.flights.classes i 0 in
      rw (class_agrees m.flights t pm pt vm vt nm nt km kt i j hi hj, moment_m i hi, moment_t j hj)
      (gap_by (takes_none class (get_or m.circuits i 0)) (agree m.flights i t j)
      (distance (moment_of m.flights i) (moment_of t j)) (window_of class))

  -- the code's answers are the rule's
  pub packed_tracks : (room : List ℕ) → many m.flights ≤ length room
      → couple (gaps_in pt pm m.flights.classes m.circuits) (moment_in pt)
      (sorted (moment_in pm) (places (many m.flights))) (places (many t)) room ≡ front (tracks_for m t) room
  unfolding tracks_for turns_of
  packed_tracks room h =
      let n = many m.flights in
      let turns = sorted (moment_of m.flights) (places n) in
      let inside : (i : ℕ) → In i turns → i < n =
      λ i p. places_in n i (sorted_in (moment_of m.flights) i (places n) p) in
      ap
      (λ (l : List ℕ). couple (gaps_in pt pm m.flights.classes m.circuits) (moment_in pt) l
      (places (many t)) room)
      (sorted_same (moment_in pm) (moment_of m.flights) (places n) (λ i p. moment_m i (places_in n i p)))
      ∙ couple_same (gaps_in pt pm m.flights.classes m.circuits) (gap m t) (moment_in pt) (moment_of t) turns
      (places (many t)) room (λ i p j q. gap_same i j (inside i p) (places_in (many t) j q))
      (λ j q. moment_t j (places_in (many t) j q))
      ∙ couple_front (gap m t) (moment_of t) turns (places (many t)) room n h inside
      (λ i p. in_sorted (moment_of m.flights) i (places n) (in_places n i p))

-- one number a movement
pub length_tracks : (m : Movements) (t : Flights) → length (tracks_for m t) ≡ many m.flights
unfolding tracks_for
length_tracks m t =
    length_couple (gap m t) (moment_of t) (turns_of m.flights) (places (many t)) (replicate (many m.flights) 0)
    ∙ length-replicate {A = ℕ} (many m.flights) 0
