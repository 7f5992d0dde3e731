-- A row is on its layout exactly if it is spelled so. Assumes nothing.
use mathlib.Core.{Path.◌≡◌, Path.refl, Path.sym, Path.ap, Path.◌∙◌, Bool.Bool, Bool.true, Bool.false, Bool.cond}
use mathlib.Core.{Logic.◌⊎◌, Logic.inl, Logic.inr, Logic.⊎_elim, List.List, List.[], List.◌++◌}
use Prim.Native.Nat.{ℕ, zero, suc, ◌+◌, ◌-◌, ◌≤◌, ◌<◌}
use native.Mathlib.Omega.{arith}
use lib.{ListN.length, ListN.get_or, ListN.replicate, Dec.eqb}
use borrow.Author.Tests.{eq-eqb, ne_eqb, eqb-true, eqb-false, le-leb}
use Rattle.text.specs.{Line.bare_line, Field.count_of, Field.field_of, Index.many, Index.listing, Number.is_got}
use Rattle.text.proofs.{Digits.either, Indices.every_all, Indices.many_no, Indices.many_all, Shown.level_least}
use Rattle.register.specs.Cell.{level_or_blank, row_cell, got_at, value_at, blank_at, got_cells, cells_of}
use Rattle.register.specs.{Cell.shown_cell, InnerCell.top_of}
use Rattle.register.specs.Row.{points_fit, off_layout, row_layout, cells_layout, layout_of}
use Rattle.register.specs.Cell.{Cells}
use Rattle.register.specs.declared.cell.Table.TheVariants.{Register}
use Rattle.register.specs.declared.row.Fields.{Fields}
use Rattle.register.proofs.Columns.{cell_level, shown_back_lem, shown_level, top_level_lem}
use Rattle.register.proofs.{Rows.layout_points, Converse.marked}
use Rattle.report_rules.specs.{Spelled.column, RowExact.Spells, RowExact.RowExactly}
use Rattle.report_rules.proofs.Spelling.{row_spelled, value_below_rule, level_below}

-- a row that spells these fields and levels is read
module _ (p : ℕ) (row : List ℕ) (f : Fields) (levels : List ℕ) (w : Spells p row f levels) where
  cell_at : (k v : ℕ) → v < top_of k → column row k ≡ shown_cell k v → got_at Register (bare_line row) k ≡ true
  cell_at k v b e = ap (λ (t : List ℕ). is_got (row_cell k t)) e ∙ ap is_got (shown_back_lem k v b)

  blank_cell_rule : (k : ℕ) → 5 ≤ k → column row k ≡ [] → got_at Register (bare_line row) k ≡ true
  unfolding level_or_blank
  blank_cell_rule k h e = ap (λ (t : List ℕ). is_got (row_cell k t)) e ∙ ap is_got (cell_level k h [])

  one : (f.computed ≡ 0 → ⊥) → f.computed ≡ 1
  one ne = omega (arith, w.mark)

  level_cell : (i : ℕ) → i < p → got_at Register (bare_line row) (5 + i) ≡ true
  level_cell i h =
      either (eqb f.computed 0)
      (λ yes. blank_cell_rule (5 + i) (omega arith) (w.blank (eqb-true f.computed 0 yes) i h))
      (λ no. let m = one (eqb-false f.computed 0 no) in
      let v = get_or levels i 0 in
      cell_at (5 + i) v (rw (top_level_lem (5 + i) (omega arith)) (w.given< m i h)) (w.given m i h
      ∙ sym (shown_level (5 + i) (omega arith) v)))

  cell : (k : ℕ) → k < 5 + p → got_at Register (bare_line row) k ≡ true
  unfolding shown_cell top_of
  cell zero h = cell_at 0 f.identity w.identity< w.identity
  cell (suc zero) h = cell_at 1 f.ty w.type< w.type
  cell (suc (suc zero)) h = cell_at 2 f.mass w.mass< w.mass
  cell (suc (suc (suc zero))) h = cell_at 3 f.kind w.kind< w.kind
  cell (suc (suc (suc (suc zero)))) h = cell_at 4 f.time w.time< w.time
  cell (suc (suc (suc (suc (suc i))))) h =
      let e : suc (suc (suc (suc (suc i)))) ≡ 5 + i = omega arith in
      rw e (level_cell i (omega arith))

  read : cells_of Register (5 + p) (bare_line row)
      ≡ got_cells (many (blank_at (bare_line row)) (5 + p - 5))
      (listing (value_at Register (bare_line row)) (5 + p) ++ replicate (13 - (5 + p)) 0)
  unfolding cells_of
  read =
      rw (
        eq-eqb (count_of 44 (bare_line row) + 1) (5 + p) (omega (arith, w.commas)),
        every_all (got_at Register (bare_line row)) (5 + p) cell,
      ) refl

  blanks_none : f.computed ≡ 1 → many (blank_at (bare_line row)) (5 + p - 5) ≡ 0
  blanks_none m =
      many_no (blank_at (bare_line row)) (5 + p - 5)
      (λ i h. let less : i < p = omega arith in
      ne_eqb (length (field_of 44 (5 + i) (bare_line row))) 0
      (λ z. absurd (omega (arith, ap length (w.given m i less), level_least (get_or levels i 0)))))

  blanks_all : f.computed ≡ 0 → many (blank_at (bare_line row)) (5 + p - 5) ≡ p
  blanks_all m =
      many_all (blank_at (bare_line row)) (5 + p - 5)
      (λ i h. let less : i < p = omega arith in
      eq-eqb (length (field_of 44 (5 + i) (bare_line row))) 0 (ap length (w.blank m i less)))
      ∙ omega arith

  pub spelled_read : (layout_of p row).refusal ≡ 0
  unfolding layout_of cells_layout row_layout
  spelled_read =
      let least = le-leb 1 p w.points.0 in
      let most = le-leb p 8 w.points.1 in
      either (eqb f.computed 0)
      (λ yes. rw (
        least,
        most,
        read,
        blanks_all (eqb-true f.computed 0 yes),
        ne_eqb p 0 (λ z. absurd (omega (arith, w.points.0))),
        eq-eqb p p refl,
      ) refl)
      (λ no. rw (least, most, read, blanks_none (one (eqb-false f.computed 0 no))) refl)

-- a layout is read or 16
cells_number : (n : ℕ) (c : Cells) → ((cells_layout n c).refusal ≡ 0) ⊎ ((cells_layout n c).refusal ≡ 16)
unfolding cells_layout row_layout
cells_number n c = go c.read (eqb c.blanks 0) (eqb c.blanks n)
  where
    go : (x y z : Bool)
        → ((cond x (cond y (row_layout c.values 1) (cond z (row_layout c.values 0) off_layout)) off_layout
        ).refusal ≡ 0)
        ⊎ ((cond x (cond y (row_layout c.values 1) (cond z (row_layout c.values 0) off_layout)) off_layout
        ).refusal ≡ 16)
    go true true z = inl refl
    go true false true = inl refl
    go true false false = inr refl
    go false y z = inr refl

layout_number : (p : ℕ) (row : List ℕ) → ((layout_of p row).refusal ≡ 0) ⊎ ((layout_of p row).refusal ≡ 16)
unfolding layout_of
layout_number p row =
    either (points_fit p)
    (λ yes. rw yes (cells_number p (cells_of Register (5 + p) (bare_line row))))
    (λ no. rw no (inr refl))

-- and one that is read spells what is read of it
read_spells : (p : ℕ) (row : List ℕ) → (layout_of p row).refusal ≡ 0
    → Spells p row (layout_of p row).fields (layout_of p row).levels
read_spells p row e =
    let s = row_spelled p row e in
    let on = (marked p row e).1 in
    record {
      points = layout_points p row e;
      commas = omega (arith, on.count);
      identity = s.identity;
      identity< = (value_below_rule p row e).0;
      type = s.type;
      type< = s.types;
      mass = s.mass;
      mass< = (value_below_rule p row e).1;
      kind = s.kind;
      kind< = s.kinds;
      time = s.time;
      time< = s.times;
      mark = s.marks;
      given = s.given;
      given< = level_below p row e;
      blank = s.blank;
    }

pub row_exactly : (p : ℕ) (row : List ℕ) → RowExactly p row
row_exactly p row =
    record {
      on = read_spells p row;
      only = spelled_read p row;
      off = λ never. ⊎_elim (λ z. absurd
          (never (layout_of p row).fields (layout_of p row).levels (read_spells p row z))) (λ e. e)
          (layout_number p row);
    }
