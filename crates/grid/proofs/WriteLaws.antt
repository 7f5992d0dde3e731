-- Lines as a text, its size, and its parts written one after the other. Assumes nothing.
use Rattle.std.specs.Prelude.{◌≡◌, ℕ, zero, suc, ◌+◌, ◌-◌, ◌*◌, ◌<◌, ◌≤◌, ltb, List, [], ◌∷◌, ◌++◌, length, get_or}
use Rattle.std.specs.Prelude.{take, drop}
use mathlib.Core.Path.{refl, sym, ap, ◌∙◌}
use mathlib.Core.List.{append-nil}
use native.Mathlib.{Nat.suc-mul, Nat.mul-le-mul, Nat.mul-le-mul_right, Numerals.add-one, Omega.arith}
use borrow.Author.Tests.{ltb-true, ltb-false, le-leb, eq-eqb, ne_eqb}
use lib.ListN.{length-append, length-drop, drop_of_length-le, get_or-eq_default}
use lib.Seq.{length-take-le, drop-cons, get_or-take, get_or-drop}
use Rattle.text.specs.{Number.show_thousandths, Field.joined_by}
use Rattle.room.specs.Room.{front}
use Rattle.text.proofs.{Digits.either, Thousandths.thousandths_most}
use Rattle.network.specs.{Edges.Checked, Edges.Sized, Limits.max_network_level, Refusals.network_refusal}
use Rattle.network.proofs.Refusals.{checked_on, checked_off}
use Rattle.network.specs.declared.Frame.{Frame}
use Rattle.grid.specs.Write.{head_lines, row_line, row_at, row_lines, text_of, show_network, write_refusal}
use Rattle.grid.specs.Write.{text_after, size_after}
use Rattle.grid.specs.InnerSteps.{sizes_of, Quiet, Near, ended, side_lines, place_lines}
use Rattle.grid.proofs.WriteSizes.{text_cons, network_text_lem, near, network_size, whole_most, head_length}

-- ---- the levels of a row

-- a space and a level for each
unfoldable pub spaced_of : List ℕ → List ℕ
spaced_of [] = []
spaced_of (v ∷ vs) = (32 ∷ show_thousandths v) ++ spaced_of vs

pub row_spaced : (v : ℕ) (vs : List ℕ) → row_line (v ∷ vs) ≡ show_thousandths v ++ spaced_of vs
unfolding row_line joined_by spaced_of
row_spaced v [] = sym (append-nil (show_thousandths v))
row_spaced v (w ∷ vs) = ap (λ t. show_thousandths v ++ (32 ∷ t)) (row_spaced w vs)

pub spaced_more : (vs : List ℕ) (i : ℕ) → i < length vs
    → spaced_of (drop i vs) ≡ (32 ∷ show_thousandths (get_or vs i 0)) ++ spaced_of (drop (i + 1) vs)
unfolding spaced_of
spaced_more vs i h = rw (add-one i, drop-cons vs i 0 h)

pub spaced_none : (vs : List ℕ) (i : ℕ) → length vs ≤ i → spaced_of (drop i vs) ≡ []
unfolding spaced_of
spaced_none vs i h = ap spaced_of (drop_of_length-le vs h)

pub row_first : (vs : List ℕ) → 1 ≤ length vs → row_line vs ≡ show_thousandths (get_or vs 0 0) ++ spaced_of (drop 1 vs)
row_first [] h = absurd (omega arith)
row_first (v ∷ vs) h = row_spaced v vs

-- a part of quiet levels is quiet
pub quiet_part : (levels : List ℕ) (at n : ℕ) → Quiet levels → at + n ≤ length levels
    → Quiet (take n (drop at levels))
quiet_part levels at n q h i =
    either (ltb i n)
    (λ yes. rw (get_or-take n (drop at levels) i 0 (ltb-true i n yes), get_or-drop at levels i 0) (q (at + i)))
    (λ past. let z = get_or-eq_default (take n (drop at levels)) 0 {n = i}
    (omega (
      arith,
      length-take-le n (drop at levels) (omega (arith, length-drop at levels)),
      ltb-false i n past,
    )) in rw z (omega arith))

pub sizes_most : (levels : List ℕ) → Quiet levels → sizes_of levels ≤ 8 * length levels
unfolding sizes_of
sizes_most [] q = omega arith
sizes_most (v ∷ vs) q = omega (arith, thousandths_most v (omega (arith, q 0)), sizes_most vs (λ i. q (suc i)))

-- the levels of the row before `left` stand among them
pub row_inside : (levels : List ℕ) (columns rows left : ℕ) → Sized levels columns rows → 0 < left
    → left ≤ rows → (left - 1) * columns + columns ≤ length levels
row_inside levels columns rows zero s h l = absurd (omega arith)
row_inside levels columns rows (suc r) s h l =
    let e : suc r - 1 ≡ r = omega arith in
    let full = s.full in
    rw e (omega (arith, suc-mul r columns, mul-le-mul_right columns l))

pub points_most : (levels : List ℕ) (columns rows : ℕ) → Sized levels columns rows → length levels ≤ 65536
points_most levels columns rows s = let full = s.full in omega (arith, mul-le-mul s.sides.low s.sides.narrow)

-- a part by its start and its end
pub part_row : (levels : List ℕ) (start n : ℕ)
    → take (start + n - start) (drop start levels) ≡ take n (drop start levels)
part_row levels start n = let e : start + n - start ≡ n = omega arith in rw e

-- the rows still to write
pub rows_more : (columns : ℕ) (levels : List ℕ) (left : ℕ) → 0 < left
    → text_of (row_lines columns levels left) ≡ ended (row_line (row_at columns levels (left - 1)))
    ++ text_of (row_lines columns levels (left - 1))
unfolding row_lines
rows_more columns levels zero h = absurd (omega arith)
rows_more columns levels (suc r) h =
    let e : suc r - 1 ≡ r = omega arith in
    rw e (text_cons (row_line (row_at columns levels r)) (row_lines columns levels r))

pub rows_none : (columns : ℕ) (levels : List ℕ) → text_of (row_lines columns levels 0) ≡ []
unfolding row_lines text_of
rows_none columns levels = refl

-- ---- the sizes of a network that can be written

pub head_most : (f : Frame) → Near f → length (text_of (head_lines f)) ≤ 86
head_most f n =
    omega (
      arith,
      head_length f,
      whole_most f.columns n.columns_most,
      whole_most f.rows n.rows_most,
      whole_most f.west n.west_most,
      whole_most f.south n.south_most,
      whole_most f.spacing n.spacing_most,
    )

pub levels_most : (levels : List ℕ) (f : Frame) → Checked levels f → sizes_of levels ≤ 524288
levels_most levels f c = omega
    (arith, sizes_most levels c.quiet, points_most levels f.columns f.rows c.sized)

pub network_most : (levels : List ℕ) (f : Frame) → Checked levels f → length (show_network levels f) ≤ 524630
network_most levels f c =
    omega (arith, network_size levels f c, head_most f (near levels f c), levels_most levels f c, c.sized.sides.low)

-- the room of its parts
pub parts_length : (levels : List ℕ) (f : Frame) → length (show_network levels f)
    ≡ length (text_of (side_lines f)) + length (text_of (place_lines f)) + length
    (text_of (row_lines f.columns levels f.rows))
parts_length levels f =
    ap length (network_text_lem levels f)
    ∙ length-append (text_of (side_lines f) ++ text_of (place_lines f)) (text_of (row_lines f.columns levels f.rows))
    ∙ ap (λ n. n + length (text_of (row_lines f.columns levels f.rows)))
    (length-append (text_of (side_lines f)) (text_of (place_lines f)))

-- ---- what a call leaves

module _ (levels : List ℕ) (f : Frame) (text sizes : List ℕ) where
  abbrev pub Outcome : ℕ → List ℕ → List ℕ → Type 0
  Outcome n t s = (n ≡ write_refusal levels f (length text) (length sizes))
      × (t ≡ text_after levels f text sizes) × (s ≡ size_after levels f text sizes)

  refused : (n : ℕ) → write_refusal levels f (length text) (length sizes) ≡ n → (n ≡ 0 → ⊥)
      → Outcome n text sizes
  refused n e h =
      let off = ne_eqb (write_refusal levels f (length text) (length sizes)) 0 (λ z. h (sym e ∙ z)) in
      (sym e, rw off, rw off)

  -- refused as a network, for the room of its text or of its size, and written
  pub network_refused : (n : ℕ) → n ≡ network_refusal levels f → (n ≡ 0 → ⊥) → Outcome n text sizes
  network_refused n e h = refused n (checked_off max_network_level levels f _ (λ z. h (e ∙ z)) ∙ sym e) h

  module _ (none : network_refusal levels f ≡ 0) where
    pub written : length (show_network levels f) ≤ length text → 1 ≤ length sizes
        → Outcome 0 (front (show_network levels f) text) (front (length (show_network levels f) ∷ []) sizes)
    written h l =
        let e : write_refusal levels f (length text) (length sizes) ≡ 0 =
        checked_on max_network_level levels f _ none
        ∙ rw (le-leb (length (show_network levels f)) (length text) h, le-leb 1 (length sizes) l) in
        let on = eq-eqb (write_refusal levels f (length text) (length sizes)) 0 e in
        (sym e, rw on, rw on)
