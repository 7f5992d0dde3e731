-- A text that has room is printed whole in one part. Assumes nothing.
use mathlib.Core.{Path.◌≡◌, Path.refl, Path.sym, Path.ap, Path.◌∙◌, Bool.Bool, Bool.true, Bool.false}
use mathlib.Core.{Logic.⊎_elim, List.List, List.◌++◌, List.append-nil}
use Rattle.std.specs.Prelude.{ℕ, zero, suc, ◌+◌, ◌*◌, ◌<◌, ◌≤◌}
use native.Mathlib.Omega.{arith}
use borrow.Author.Tests.{ltb-true, ltb-false}
use lib.{Dec.ltb, ListN.length, ListN.take, ListN.drop, ListN.length-append, ListN.take-append-drop, Seq.length-take-le}
use Rattle.network.specs.declared.Frame.{Frame}
use Rattle.network.specs.Limits.{max_edges}
use Rattle.network.proofs.Numbers.{edges_le}
use Rattle.room.specs.Room.{front}
use Rattle.wkt.specs.declared.{Cursor.Cursor, Part.Part}
use Rattle.wkt.specs.Text.{text_of}
use Rattle.wkt.specs.InnerParts.{lines_from, Printable, Reached, left_of, piece_of, next_of, Printed}
use Rattle.wkt.proofs.Lengths.{piece_short}
use Rattle.wkt.proofs.Steps.{ahead, left_end, left_first, reached_first, count_total, goes}

module _ (levels : List ℕ) (f : Frame) (v : ℕ) (listed counts closed : List ℕ)
    (k : Printable levels f v listed counts closed) where
  abbrev text : List ℕ
  text = text_of levels f v (lines_from listed counts closed)

  -- ---- how long a text can be: 64 bytes a step

  left_short : (n : ℕ) (c : Cursor) → Reached listed counts closed c → ahead listed counts c < n
      → length (left_of levels f v listed counts closed c) ≤ 64 * ahead listed counts c
  left_short zero c r h = absurd (omega arith)
  left_short (suc n) c r h = go (ltb (length counts) c.line) refl (left_short n)
    where
      go : (b : Bool) → ltb (length counts) c.line ≡ b
          → ((c' : Cursor) → Reached listed counts closed c' → ahead listed counts c' < n
          → length (left_of levels f v listed counts closed c') ≤ 64 * ahead listed counts c')
          → length (left_of levels f v listed counts closed c) ≤ 64 * ahead listed counts c
      go true t short = omega (arith, ap length (left_end levels f v listed counts closed c (ltb-true _ _ t)))
      go false t short =
          let g = goes levels f v listed counts closed k c r (ltb-false (length counts) c.line t) in
          let next = next_of counts closed c in
          let i = short next g.reached (omega (arith, g.nearer)) in
          omega (
            arith,
            ap length g.text,
            length-append (piece_of levels f v listed counts closed c)
                (left_of levels f v listed counts closed next),
            piece_short levels f v listed counts closed c,
            g.nearer,
            i,
          )

  pub text_short : length text ≤ 25067712
  text_short =
      let c : Cursor = record { line = 0; start = 0; point = 0 } in
      let first : (c.line ≡ 0) × ((c.start ≡ 0) × (c.point ≡ 0)) = (refl, (refl, refl)) in
      let short =
      left_short (suc (ahead listed counts c)) c (reached_first levels f v listed counts closed k.summed c first)
      (omega arith) in
      let e : length listed ≤ max_edges =
      omega (
        arith,
        k.few,
        edges_le f.columns f.rows k.checked.sized.sides.narrow
            k.checked.sized.sides.low,
      ) in
      omega (
        arith,
        ap length (left_first levels f v listed counts closed c first),
        short,
        e,
        k.summed,
        count_total counts k.some,
      )

  -- ---- one part

  module _ (c : Cursor) (first : (c.line ≡ 0) × ((c.start ≡ 0) × (c.point ≡ 0))) (room room' : List ℕ)
      (part : Part)
      (p : Printed levels f v listed counts closed c room part room') (long : length room' ≡ length room)
      (fits : length text ≤ length room) where
    -- what is printed and what is left are the text
    all : text ≡ take part.size room' ++ left_of levels f v listed counts closed part.next
    all = sym (left_first levels f v listed counts closed c first) ∙ p.joined

    sizes : length text ≡ part.size + length (left_of levels f v listed counts closed part.next)
    sizes = ap length all ∙ length-append (take part.size room') _
        ∙ ap (λ (n : ℕ). n + length (left_of levels f v listed counts closed part.next))
        (length-take-le part.size room' (omega (arith, p.fits)))

    -- a part that stopped for want of room had more to print than there is
    never_short : part.next.line ≤ length counts
        → length room < part.size + length (piece_of levels f v listed counts closed part.next) → ⊥
    never_short l s =
        let g = goes levels f v listed counts closed k part.next p.reached l in
        omega (
          arith,
          sizes,
          ap length g.text,
          length-append (piece_of levels f v listed counts closed part.next)
              (left_of levels f v listed counts closed (next_of counts closed part.next)),
        )

    ended : length counts < part.next.line
    ended = go (ltb (length counts) part.next.line) refl
      where
        go : (b : Bool) → ltb (length counts) part.next.line ≡ b → length counts < part.next.line
        go true h = ltb-true _ _ h
        go false h = ⊎_elim (λ l. l) (λ s. absurd (never_short (ltb-false (length counts) part.next.line h) s))
            p.stopped

    pub printed_whole : room' ≡ front text room
    printed_whole =
        let none = left_end levels f v listed counts closed part.next ended in
        let here : text ≡ take part.size room' = all ∙ ap (λ (t : List ℕ). take part.size room' ++ t) none
        ∙ append-nil (take part.size room') in
        let size : part.size ≡ length text = omega (arith, sizes, ap length none) in
        sym (take-append-drop part.size room') ∙ ap (λ (t : List ℕ). t ++ drop part.size room') (sym here)
        ∙ ap (λ (t : List ℕ). text ++ t) (p.kept ∙ ap (λ (n : ℕ). drop n room) size)
