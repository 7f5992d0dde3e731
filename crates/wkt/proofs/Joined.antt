-- The parts of any run of printing, joined, are the text. Assumes nothing.
use mathlib.Core.{Path.◌≡◌, Path.refl, Path.sym, Path.ap, Path.◌∙◌, Bool.Bool, Bool.true, Bool.false}
use mathlib.Core.{List.List, List.◌++◌, Logic.⊎_elim}
use Rattle.std.specs.Prelude.{ℕ, suc, ◌+◌, ◌<◌, ◌≤◌}
use native.Mathlib.Omega.{arith}
use borrow.Author.Tests.{ltb-true, ltb-false}
use lib.{Dec.ltb, ListN.length, ListN.take, ListN.drop, ListN.length-append, ListN.take-append-drop, Seq.length-take-le}
use Rattle.network.specs.declared.Frame.{Frame}
use Rattle.wkt.specs.declared.{Cursor.Cursor, Part.Part}
use Rattle.wkt.specs.Text.{text_of}
use Rattle.wkt.specs.InnerParts.{lines_from, left_of, piece_of, walk, pieces, Printed}
use Rattle.wkt.specs.InnerRuns.{Run, ended, printed}
use Rattle.wkt.proofs.Steps.{left_end, left_first}

module _ (levels : List ℕ) (f : Frame) (v : ℕ) (listed counts closed : List ℕ) where
  run_left : {c : Cursor} {text : List ℕ} → Run levels f v listed counts closed c text
      → text ≡ left_of levels f v listed counts closed c
  run_left (ended h) = sym (left_end levels f v listed counts closed _ h)
  run_left (printed {room' = room'} {part = part} p r) =
      ap (λ (t : List ℕ). take part.size room' ++ t) (run_left r) ∙ sym p.joined

  pub parts_joined : (c : Cursor) (text : List ℕ) → (c.line ≡ 0) × ((c.start ≡ 0) × (c.point ≡ 0))
      → Run levels f v listed counts closed c text → text ≡ text_of levels f v (lines_from listed counts closed)
  parts_joined c text h r = run_left r ∙ left_first levels f v listed counts closed c h

-- ---- two outcomes of one part are equal

not_more : (a b : ℕ) → (a < b → ⊥) → b ≤ a
not_more a b h = go (ltb a b) refl
  where
    go : (t : Bool) → ltb a b ≡ t → b ≤ a
    go true t = absurd (h (ltb-true _ _ t))
    go false t = ltb-false _ _ t

module _ (levels : List ℕ) (f : Frame) (v : ℕ) (listed counts closed : List ℕ) (c : Cursor)
    (room : List ℕ) where
  module _ {part : Part} {r : List ℕ} (p : Printed levels f v listed counts closed c room part r) where
    one_more : length (pieces levels f v listed counts closed (suc p.steps) c)
        ≡ part.size + length (piece_of levels f v listed counts closed part.next)
    unfolding pieces
    one_more =
        length-append (pieces levels f v listed counts closed p.steps c)
        (piece_of levels f v listed counts closed (walk counts closed p.steps c))
        ∙ rw (← p.bytes, length-take-le part.size r (omega (arith, p.fits, p.long)), ← p.there)

    -- no part goes on where another one stopped
    never_on : {part' : Part} {r' : List ℕ} (p' : Printed levels f v listed counts closed c room part' r')
        → p.steps < p'.steps → ⊥
    never_on p' h =
        let n = p'.not_before_rule p.steps h in
        ⊎_elim (λ s. omega (arith, n.0, ap (λ (c : Cursor). c.line) p.there))
        (λ s. omega (arith, n.1, one_more)) p.stopped

    size_is : part.size ≡ length (pieces levels f v listed counts closed p.steps c)
    size_is = sym (length-take-le part.size r (omega (arith, p.fits, p.long))) ∙ ap length p.bytes

    room_is : r ≡ pieces levels f v listed counts closed p.steps c
        ++ drop (length (pieces levels f v listed counts closed p.steps c)) room
    room_is = sym (take-append-drop part.size r) ∙ ap (λ (t : List ℕ). t ++ drop part.size r) p.bytes
        ∙ ap (λ (t : List ℕ). pieces levels f v listed counts closed p.steps c ++ t) (p.kept
        ∙ ap (λ (n : ℕ). drop n room) size_is)

  pub one_outcome : {part part' : Part} {r r' : List ℕ} → Printed levels f v listed counts closed c room part r
      → Printed levels f v listed counts closed c room part' r'
      → (part.next ≡ part'.next) × ((part.size ≡ part'.size) × (r ≡ r'))
  one_outcome {part} {part'} {r} {r'} p p' =
      let e : p.steps ≡ p'.steps = omega (arith, same) in (
        p.there ∙ ap (λ (n : ℕ). walk counts closed n c) e ∙ sym p'.there,
        (
          size_is p ∙ ap (λ (n : ℕ). length (pieces levels f v listed counts closed n c)) e ∙ sym (size_is p'),
          room_is p ∙ ap (λ (n : ℕ). pieces levels f v listed counts closed n c
              ++ drop (length (pieces levels f v listed counts closed n c)) room) e ∙ sym (room_is p'),
        ),
      )
    where
      same : (p.steps ≤ p'.steps) × (p'.steps ≤ p.steps)
      same = (not_more p'.steps p.steps (never_on p' p), not_more p.steps p'.steps (never_on p p'))
