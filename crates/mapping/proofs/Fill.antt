-- Room filled from its front, one edge a turn. Assumes nothing.
use Rattle.std.specs.Prelude.{◌≡◌, ℕ, suc, ◌+◌, ◌*◌, ◌<◌, ◌≤◌, List, [], ◌∷◌, ◌++◌}
use mathlib.Core.Path.{refl, ap, ◌∙◌}
use mathlib.Core.List.{append_assoc}
use native.Mathlib.{Numerals.add-one, Omega.arith}
use lib.{Ieee.Float, ListN.length, ListN.get_or, ListN.take, ListN.set, ListN.length-append}
use lib.Seq.{take-suc, length-take-le}
use Rattle.room.specs.Room.{front}
use Rattle.room.proofs.Fronts.{front_more_rule}
use Rattle.network.specs.declared.Frame.{Frame}
use Rattle.mapping.specs.{Places.located_of, Places.shown_of, Many.numbers_of, Many.places_of}

module _ (levels : List ℕ) (f : Frame) (v : ℕ) where
  numbers_last : (ns : List ℕ) (n : ℕ) → numbers_of levels f v (ns ++ (n ∷ []))
      ≡ numbers_of levels f v ns ++ ((shown_of (located_of levels f v n)).which ∷ [])
  unfolding numbers_of
  numbers_last [] n = refl
  numbers_last (m ∷ ns) n = ap (λ (l : List ℕ). (shown_of (located_of levels f v m)).which ∷ l) (numbers_last ns n)

  places_last : (ns : List ℕ) (n : ℕ) → places_of levels f v (ns ++ (n ∷ []))
      ≡ places_of levels f v ns ++ ((shown_of (located_of levels f v n)).x ∷ (shown_of (located_of levels f v n)).y
      ∷ [])
  unfolding places_of
  places_last [] n = refl
  places_last (m ∷ ns) n = ap (λ (l : List Float). (shown_of (located_of levels f v m)).x ∷ (shown_of
      (located_of levels f v m)).y ∷ l) (places_last ns n)

  pub length-numbers : (ns : List ℕ) → length (numbers_of levels f v ns) ≡ length ns
  unfolding numbers_of
  length-numbers [] = refl
  length-numbers (n ∷ ns) = ap suc (length-numbers ns)

  pub length_places : (ns : List ℕ) → length (places_of levels f v ns) ≡ 2 * length ns
  unfolding places_of
  length_places [] = refl
  length_places (n ∷ ns) = let h = length_places ns in omega arith

  -- nothing yet
  pub numbers-none : (old ns : List ℕ) → old ≡ front (numbers_of levels f v (take 0 ns)) old
  unfolding numbers_of
  numbers-none old ns = refl

  pub places_none : (old : List Float) (ns : List ℕ) → old ≡ front (places_of levels f v (take 0 ns)) old
  unfolding places_of
  places_none old ns = refl

  module _ (ns : List ℕ) (i : ℕ) (h : i < length ns) where
    taken : length (take i ns) ≡ i
    taken = length-take-le i ns (omega arith)

    pub numbers_turn : (old : List ℕ) → length ns ≤ length old
        → set (front (numbers_of levels f v (take i ns)) old) i (shown_of (located_of levels f v (get_or ns i 0))).which
        ≡ front (numbers_of levels f v (take (i + 1) ns)) old
    numbers_turn old k =
        front_more_rule (numbers_of levels f v (take i ns)) old i
        (shown_of (located_of levels f v (get_or ns i 0))).which
        (length-numbers (take i ns) ∙ taken) (omega arith)
        ∙ rw (add-one i, take-suc ns i 0 h, numbers_last (take i ns) (get_or ns i 0))

    pub places_turn : (old : List Float) → 2 * length ns ≤ length old
        → let p = shown_of (located_of levels f v (get_or ns i 0)) in
        set (set (front (places_of levels f v (take i ns)) old) (2 * i) p.x) (2 * i + 1) p.y
        ≡ front (places_of levels f v (take (i + 1) ns)) old
    places_turn old k =
        let p = shown_of (located_of levels f v (get_or ns i 0)) in
        let ps = places_of levels f v (take i ns) in
        let l : length ps ≡ 2 * i = length_places (take i ns) ∙ ap (λ (n : ℕ). 2 * n) taken in
        let l' : length (ps ++ (p.x ∷ [])) ≡ 2 * i + 1 = length-append ps (p.x ∷ []) ∙ omega arith in
        ap (λ (q : List Float). set q (2 * i + 1) p.y) (front_more_rule ps old (2 * i) p.x l (omega arith))
        ∙ front_more_rule (ps ++ (p.x ∷ [])) old (2 * i + 1) p.y l' (omega arith)
        ∙ rw (
          append_assoc ps (p.x ∷ []) (p.y ∷ []),
          add-one i,
          take-suc ns i 0 h,
          places_last (take i ns)
              (get_or ns i 0),
        )
