-- How long the sheet can be: a machine's word counts it. Assumes nothing.
use Rattle.std.specs.Prelude.{ℕ, zero, suc, ◌+◌, ◌*◌, ◌^◌, ◌<◌, ◌≤◌}
use mathlib.Core.{Path.◌≡◌, Path.refl, Path.ap, List.List, List.[], List.◌∷◌, List.◌++◌}
use native.Mathlib.{Nat.mul-le-mul, Nat.le_refl, Omega.arith}
use borrow.Author.Tests.{ltb-true, ltb-false}
use lib.{Dec.ltb, ListN.length, ListN.get_or, ListN.length-append}
use Rattle.text.proofs.{Digits.either, Thousandths.thousandths_most}
use Rattle.network.specs.declared.Frame.{Frame}
use Rattle.network.specs.Edges.{Checked}
use Rattle.network.proofs.Numbers.{edges_le}
use Rattle.contour_rules.specs.Picture.{picture}
use Rattle.contour_rules.specs.Contours.{contours_of, edges_of, counts_of, closed_of}
use Rattle.wkt.specs.declared.Cursor.{Cursor}
use Rattle.wkt.specs.Text.{text_of}
use Rattle.wkt.specs.InnerParts.{lines_from, Printable, Reached, left_of, piece_of, next_of}
use Rattle.wkt.specs.Calls.{network_text}
use Rattle.wkt.proofs.Lengths.{piece_short}
use Rattle.wkt.proofs.Steps.{ahead, goes, left_end, left_first, reached_first, count_total}
use Rattle.wkt.proofs.Contours.{lines_from_lem, printable}
use Rattle.contours_steps.specs.Sheet.{line_start, level_line, level_lines, sheet_of}
use Rattle.contours_steps.specs.InnerDrawing.{Drawable}

module _ (levels : List ℕ) (f : Frame) (v : ℕ) where
  module _ (listed counts closed : List ℕ) (p : Printable levels f v listed counts closed) where
    -- what is left at a cursor, by how far it is to the end
    left_short : (k : ℕ) (c : Cursor) → Reached listed counts closed c → ahead listed counts c ≤ k
        → length (left_of levels f v listed counts closed c) ≤ 64 * k
    left_short zero c r h =
        either (ltb (length counts) c.line)
        (λ past. omega (
          arith,
          ap length
              (left_end levels f v listed counts closed c (ltb-true (length counts) c.line past)),
        ))
        (λ here. absurd (omega (
          arith,
          (goes levels f v listed counts closed p c r
              (ltb-false (length counts) c.line here)).nearer,
        )))
    left_short (suc k) c r h =
        either (ltb (length counts) c.line)
        (λ past. omega (
          arith,
          ap length
              (left_end levels f v listed counts closed c (ltb-true (length counts) c.line past)),
        ))
        (λ here. let g = goes levels f v listed counts closed p c r (ltb-false (length counts) c.line here) in
        let n = next_of counts closed c in
        omega (
          arith,
          ap length g.text,
          length-append (piece_of levels f v listed counts closed c) (left_of levels f v listed counts closed n),
          piece_short levels f v listed counts closed c,
          left_short k n g.reached (omega (arith, g.nearer)),
        ))

    text_short : length (text_of levels f v (lines_from listed counts closed)) ≤ 25067712
    text_short =
        let c : Cursor = record { line = 0; start = 0; point = 0 } in
        let few : length listed ≤ 130560 =
        omega (
          arith,
          p.few,
          edges_le f.columns f.rows p.checked.sized.sides.narrow p.checked.sized.sides.low,
        ) in
        omega (
          arith,
          ap length (left_first levels f v listed counts closed c (refl, (refl, refl))),
          left_short (3 * 130560 + 3) c
              (reached_first levels f v listed counts closed p.summed c (refl, (refl, refl)))
              (omega (arith, p.summed, count_total counts p.some)),
        )

  pub network_short : Checked levels f → length (network_text levels f v) ≤ 25067712
  network_short k =
      let cs = contours_of (picture levels f.columns f.rows v) in
      omega (
        arith,
        ap (λ (ls : List (List ℕ)). length (text_of levels f v ls)) (lines_from_lem cs),
        text_short (edges_of cs) (counts_of cs) (closed_of cs) (printable levels f v k),
      )

pub start_short : (v : ℕ) → v < 1000000 → length (line_start v) ≤ 8
start_short v h = omega (arith, length-append {A = ℕ}, thousandths_most v h)

pub line_length : (levels : List ℕ) (f : Frame) (v : ℕ)
    → length (level_line levels f v) ≡ length (line_start v) + (length (network_text levels f v) + 2)
line_length levels f v =
    omega (
      arith,
      length-append (line_start v) (network_text levels f v ++ (13 ∷ 10 ∷ [])),
      length-append (network_text levels f v) (13 ∷ 10 ∷ []),
    )

lines_short : (levels : List ℕ) (f : Frame) (vs : List ℕ) → Checked levels f
    → ((i : ℕ) → i < length vs → get_or vs i 0 < 1000000)
    → length (level_lines levels f vs) ≤ length vs * 25067722
unfolding level_lines
lines_short levels f [] k h = omega arith
lines_short levels f (v ∷ vs) k h =
    omega (
      arith,
      length-append (level_line levels f v) (level_lines levels f vs),
      line_length levels f v,
      start_short v (h 0 (omega arith)),
      network_short levels f v k,
      lines_short levels f vs k (λ i l. h (suc i) (omega arith)),
    )

pub sheet_short : {levels : List ℕ} {f : Frame} {asked : List ℕ} → Drawable levels f asked
    → length (sheet_of levels f asked) < 2 ^ 64
unfolding sheet_of
sheet_short {levels} {f} {asked} d =
    omega (
      arith,
      lines_short levels f asked d.checked (λ i l. omega (arith, d.most i l)),
      mul-le-mul d.few (le_refl 25067722),
    )
