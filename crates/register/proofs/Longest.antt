-- The longest row has 84 bytes before its CRLF: a longer one is off its layout. Assumes nothing.
use Rattle.std.specs.Prelude.{ℕ, zero, suc, ◌+◌, ◌*◌, ◌<◌, ◌≤◌}
use mathlib.Core.{Path.◌≡◌, Path.ap, List.List}
use native.Mathlib.Omega.{arith}
use borrow.Author.Tests.{eqb-true}
use lib.{ListN.length, Dec.leb, Dec.eqb}
use Rattle.refusal.proofs.Laws.{and_right}
use Rattle.text.specs.{Field.count_of, Field.field_of, Line.bare_line}
use Rattle.std.specs.Prelude.{Some}
use Rattle.text.proofs.{Digits.either, Digits.got_value, Fields.widest, Fields.line_within}
use Rattle.text.proofs.{Indices.every_each, Shown.shown_width, Shown.level_most}
use Rattle.register.specs.Cell.{row_cell, cell_at, got_at, value_at, shown_cell, cells_of}
use Rattle.register.specs.InnerCell.{blank_cell, top_of}
use Rattle.register.specs.Row.{points_fit, row_layout, cells_layout, layout_of, off_layout}
use Rattle.register.specs.declared.cell.Table.TheVariants.{Register}
use Rattle.register.proofs.{Columns.cell_exact, Rows.layout_points, Converse.marked}

-- the most bytes that column k has
width : ℕ → ℕ
width zero = 7
width (suc zero) = 1
width (suc (suc zero)) = 7
width (suc (suc (suc zero))) = 1
width (suc (suc (suc (suc zero)))) = 8
width (suc (suc (suc (suc (suc i))))) = 6

shown_within : (k v : ℕ) → v < top_of k → length (shown_cell k v) ≤ width k
unfolding shown_cell top_of width
shown_within zero v h = shown_width 7 6 v h
shown_within (suc zero) v h = omega arith
shown_within (suc (suc zero)) v h = shown_width 7 6 v h
shown_within (suc (suc (suc zero))) v h = omega arith
shown_within (suc (suc (suc (suc zero)))) v h = omega arith
shown_within (suc (suc (suc (suc (suc i))))) v h = level_most v h

-- a field that was read is no longer
cell_within : (k : ℕ) (t : List ℕ) (v : ℕ) → row_cell k t ≡ Some v → length t ≤ width k
cell_within k t v e =
    either (blank_cell k t)
    (λ yes. let z = eqb-true (length t) 0 (and_right (leb 5 k) (eqb (length t) 0) yes) in omega arith)
    (λ no. let p = cell_exact k t v e no in omega (arith, ap length p.0, shown_within k v p.1))

-- the head of a row and seven bytes for each level
widest_most : (n : ℕ) → widest width (suc (suc (suc (suc n)))) ≤ 28 + 7 * n
unfolding widest width
widest_most zero = omega arith
widest_most (suc n) = omega (arith, widest_most n)

-- a row on its layout has at most 84 bytes before its CRLF
pub row_short : (n : ℕ) (s : List ℕ) → (layout_of n s).refusal ≡ 0 → length (bare_line s) ≤ 84
row_short n s e =
    let t = bare_line s in
    let o = (marked n s e).1 in
    let count : count_of 44 t ≡ suc (suc (suc (suc n))) = omega (arith, o.count) in
    let all = line_within 44 (suc (suc (suc (suc n)))) t width count (λ i h.
    let b : i < 5 + n = omega arith in
    cell_within i (field_of 44 i t) (value_at Register t i)
    (got_value (cell_at Register t i) (every_each (got_at Register t) i (5 + n) b o.got))) in
    omega (arith, all, widest_most n, (layout_points n s e).1)

-- so a longer one is off its layout
off_else : (n : ℕ) (s : List ℕ) → ((layout_of n s).refusal ≡ 0 → ⊥) → layout_of n s ≡ off_layout
unfolding layout_of cells_layout row_layout
off_else n s h =
    let c = cells_of Register (5 + n) (bare_line s) in
    either (points_fit n)
    (λ fit. either c.read
    (λ got. either (eqb c.blanks 0)
    (λ none. absurd (h (rw (fit, got, none))))
    (λ some. either (eqb c.blanks n) (λ all. absurd (h (rw (fit, got, some, all))))
    (λ few. rw (fit, got, some, few))))
    (λ bad. rw (fit, bad)))
    (λ none. rw none)

pub long_row_lem : (n : ℕ) (s : List ℕ) → 84 < length (bare_line s) → layout_of n s ≡ off_layout
long_row_lem n s h = off_else n s (λ e. omega (arith, row_short n s e))
