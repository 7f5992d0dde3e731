-- What the calls leave in lent room, place by place. Assumes nothing.
use mathlib.Core.{Path.◌≡◌, Path.refl, Path.sym, Path.ap, Path.◌∙◌, Path.subst, Bool.Bool, Bool.true, Bool.◌&&◌}
use mathlib.Core.{Logic.◌↔◌, List.List, List.[], List.◌∷◌}
use Rattle.std.specs.Prelude.{ℕ, zero, suc, ◌+◌, ◌*◌, ◌<◌, ◌≤◌}
use native.Mathlib.Omega.{arith}
use borrow.Author.Tests.{leb-true, le-leb}
use lib.{Dec.leb, Ieee.Float, ListN.length, ListN.get_or}
use Rattle.room.specs.Room.{front, fits_in, then_room}
use Rattle.room.proofs.{Fronts.front_at, Fronts.front_past, Fronts.left_alone}
use Rattle.network.specs.declared.Frame.{Frame}
use Rattle.network.specs.{Ranges.RoomRefused, Refusals.contour_refusal}
use Rattle.network.proofs.{Refusals.both, Ranges.room_refused}
use Rattle.mapping.specs.Fractions.{whole, crossing_of, which_of, fraction_shown}
use Rattle.mapping.specs.{Places.located_of, Places.shown_of, Many.numbers_of, Many.places_of, Many.Many}
use Rattle.mapping.specs.{OneCrossing.OneCrossing, Room.ManyInRoom, Room.CrossingInRoom}
use Rattle.mapping.proofs.Fill.{length-numbers, length_places}

-- ---- refusals

both_leb : (a b c d : ℕ) → ((leb a b && leb c d) ≡ true) ↔ ((a ≤ b) × (c ≤ d))
both_leb a b c d = (
  λ h. let p = both (leb a b) (leb c d) h in (leb-true _ _ p.0, leb-true _ _ p.1),
  λ h. rw (le-leb a b h.0, le-leb c d h.1),
)

module _ (levels : List ℕ) (f : Frame) (v : ℕ) where
  -- ---- many

  numbers_at : (ns : List ℕ) (i : ℕ) → i < length ns
      → get_or (numbers_of levels f v ns) i 0 ≡ (shown_of (located_of levels f v (get_or ns i 0))).which
  unfolding numbers_of
  numbers_at [] i h = absurd (omega arith)
  numbers_at (n ∷ ns) zero h = refl
  numbers_at (n ∷ ns) (suc i) h = numbers_at ns i (omega arith)

  places_at : (ns : List ℕ) (i : ℕ) (d : Float) → i < length ns
      → (get_or (places_of levels f v ns) (2 * i) d ≡ (shown_of (located_of levels f v (get_or ns i 0))).x)
      × (get_or (places_of levels f v ns) (2 * i + 1) d ≡ (shown_of (located_of levels f v (get_or ns i 0))).y)
  unfolding places_of
  places_at [] i d h = absurd (omega arith)
  places_at (n ∷ ns) zero d h = (refl, refl)
  places_at (n ∷ ns) (suc i) d h =
      let e : 2 * suc i ≡ suc (suc (2 * i)) = omega arith in
      let e' : 2 * suc i + 1 ≡ suc (suc (2 * i + 1)) = omega arith in
      let r = places_at ns i d (omega arith) in (
        ap (λ (k : ℕ). get_or (places_of levels f v (n ∷ ns)) k d) e
            ∙ r.0,
        ap (λ (k : ℕ). get_or (places_of levels f v (n ∷ ns)) k d) e' ∙ r.1,
      )

  module _ (edges which : List ℕ) (places : List Float) (answer : ℕ) (which' : List ℕ) (places' : List Float)
      (m : Many levels f v edges which places answer which' places') where
    abbrev fits : Bool
    fits = fits_in (numbers_of levels f v edges) which && fits_in (places_of levels f v edges) places

    abbrev due : ℕ
    due = then_room (contour_refusal levels f v) fits

    abbrev Enough : Type 0
    Enough = (length edges ≤ length which) × (2 * length edges ≤ length places)

    enough : (fits ≡ true) ↔ Enough
    enough =
        let n = length-numbers levels f v edges in
        let p = length_places levels f v edges in
        let i = both_leb (length (numbers_of levels f v edges)) (length which)
        (length (places_of levels f v edges)) (length places) in (
          λ h. let k = i.0 h in (omega (arith, k.0, n), omega (arith, k.1, p)),
          λ h. i.1 (omega (arith, h.0, n), omega (arith, h.1, p)),
        )

    module _ (z : answer ≡ 0) where
      none : due ≡ 0
      none = sym m.number ∙ z

      numbers : which' ≡ front (numbers_of levels f v edges) which
      numbers = m.left_first ∙ rw none refl

      coordinates : places' ≡ front (places_of levels f v edges) places
      coordinates = m.left_second ∙ rw none refl

    pub many_in_room : ManyInRoom levels f v edges which places answer which' places'
    many_in_room = record {
      refusal = subst (RoomRefused levels f v Enough) (sym m.number) (room_refused levels f v Enough fits enough);
      refused = λ h. (
        m.left_first ∙ left_alone due (numbers_of levels f v edges) which (λ e. h (m.number ∙ e)),
        m.left_second ∙ left_alone due (places_of levels f v edges) places (λ e. h (m.number ∙ e)),
      );
      number = λ z i h. rw (
        numbers z,
        front_at (numbers_of levels f v edges) which i 0 (rw (length-numbers levels f v edges) h),
        numbers_at edges i h,
      );
      east = λ z i h.
          let l : length (places_of levels f v edges) ≡ 2 * length edges = length_places levels f v edges in
          rw (
            coordinates z,
            front_at (places_of levels f v edges) places (2 * i) (whole 0) (omega arith),
            (places_at edges i (whole 0) h).0,
          );
      north = λ z i h.
          let l : length (places_of levels f v edges) ≡ 2 * length edges = length_places levels f v edges in
          rw (
            coordinates z,
            front_at (places_of levels f v edges) places (2 * i + 1) (whole 0) (omega arith),
            (places_at edges i (whole 0) h).1,
          );
      which_kept = λ z i h. rw (numbers z)
          (front_past (numbers_of levels f v edges) which i 0 (rw (length-numbers levels f v edges) h));
      places_kept = λ z i h. rw (coordinates z)
          (front_past (places_of levels f v edges) places i (whole 0) (rw (length_places levels f v edges) h));
    }

  -- ---- one crossing

  module _ (n : ℕ) (which : List ℕ) (fraction : List Float) (answer : ℕ) (which' : List ℕ)
      (fraction' : List Float)
      (m : OneCrossing levels f v n which fraction answer which' fraction') where
    abbrev kinds : List ℕ
    kinds = which_of (crossing_of levels f v n) ∷ []

    abbrev parts : List Float
    parts = fraction_shown (crossing_of levels f v n) ∷ []

    abbrev lent_fits : Bool
    lent_fits = fits_in kinds which && fits_in parts fraction

    abbrev lent-due : ℕ
    lent-due = then_room (contour_refusal levels f v) lent_fits

    abbrev LentEnough : Type 0
    LentEnough = (1 ≤ length which) × (1 ≤ length fraction)

    module _ (z : answer ≡ 0) where
      lent_none : lent-due ≡ 0
      lent_none = sym m.number ∙ z

      kind : which' ≡ front kinds which
      kind = m.left_first ∙ rw lent_none refl

      part : fraction' ≡ front parts fraction
      part = m.left_second ∙ rw lent_none refl

    pub crossing_in_room : CrossingInRoom levels f v n which fraction answer which' fraction'
    crossing_in_room = record {
      refusal = subst (RoomRefused levels f v LentEnough) (sym m.number)
          (room_refused levels f v LentEnough lent_fits (both_leb 1 (length which) 1 (length fraction)));
      refused = λ h. (
        m.left_first ∙ left_alone lent-due kinds which (λ e. h (m.number ∙ e)),
        m.left_second ∙ left_alone lent-due parts fraction (λ e. h (m.number ∙ e)),
      );
      number = λ z. rw (kind z);
      place = λ z. rw (part z);
      which_kept = λ z i h. rw (kind z) (front_past kinds which i 0 h);
      fraction_kept = λ z i h. rw (part z) (front_past parts fraction i (whole 0) h);
    }
