-- A row on its layout spells its fields, column by column. Assumes nothing.
use Rattle.refusal.proofs.Laws.{nil_of_lem}
use mathlib.Core.{Path.◌≡◌, Path.refl, Path.sym, Path.ap, Path.◌∙◌, Bool.true, Bool.false}
use mathlib.Core.List.{List, [], ◌∷◌, ◌++◌}
use Prim.Native.Nat.{ℕ, ◌+◌, ◌-◌, ◌≤◌, ◌<◌}
use native.Mathlib.Omega.{arith}
use lib.{ListN.length, ListN.get_or, ListN.replicate, Dec.eqb}
use borrow.Author.Tests.{eqb-true, lt-leb, le-leb}
use Rattle.text.specs.{Line.bare_line, Field.field_of, Index.listing, Number.show_whole, Number.show_level}
use Rattle.text.specs.{Spelled.bytes}
use Rattle.text.specs.Clock.{show_time}
use Rattle.register.specs.Cell.{cell_at, got_at, value_at, shown_cell}
use Rattle.text.proofs.{Digits.got_value, Indices.every_each}
use Rattle.register.specs.{InnerCell.blank_cell, InnerCell.top_of, Row.eight_from, Row.row_layout, Row.layout_of}
use Rattle.register.specs.declared.cell.Table.TheVariants.{Register}
use Rattle.register.specs.Row.{Layout}
use Rattle.register.proofs.{Columns.cell_exact, Columns.shown_level, Columns.top_level_lem, Rows.layout_points}
use Rattle.register.proofs.Converse.{OnLayout, marked}
use Rattle.report_rules.specs.Spelled.{column, RowSpelled}
use Rattle.report_rules.proofs.Printed.{listing_at, value_at_rule}

module _ (p : ℕ) (row : List ℕ) (e : (layout_of p row).refusal ≡ 0) where
  abbrev s : List ℕ
  s = bare_line row

  mark : ℕ
  mark = (marked p row e).0

  on : OnLayout p (bare_line row) (layout_of p row) mark
  unfolding mark
  on = (marked p row e).1

  -- the value of a column, and its text
  value : ℕ → ℕ
  value k = value_at Register (bare_line row) k

  text : (k : ℕ) → k < 5 + p → blank_cell k (field_of 44 k (bare_line row)) ≡ false
      → (column row k ≡ shown_cell k (value k)) × (value k < top_of k)
  unfolding value
  text k h b =
      cell_exact k (field_of 44 k (bare_line row)) (value_at Register (bare_line row) k)
      (got_value (cell_at Register (bare_line row) k) (every_each (got_at Register (bare_line row)) k (5 + p) h
      on.got)) b

  head : (k : ℕ) → k < 5 → blank_cell k (field_of 44 k (bare_line row)) ≡ false
  head k h = rw (lt-leb 5 k h) refl

  -- the values of the row's fields
  held : (k : ℕ) → k < 5 + p
      → get_or (listing (value_at Register (bare_line row)) (5 + p) ++ replicate (13 - (5 + p)) 0) k 0 ≡ value k
  unfolding value
  held k h = value_at_rule (value_at Register (bare_line row)) (5 + p) (replicate (13 - (5 + p)) 0) k h

  field : (get : Layout → ℕ) (k : ℕ) → k < 5
      → get (row_layout (listing (value_at Register (bare_line row)) (5 + p) ++ replicate (13 - (5 + p)) 0) mark)
      ≡ get_or (listing (value_at Register (bare_line row)) (5 + p) ++ replicate (13 - (5 + p)) 0) k 0
      → get (layout_of p row) ≡ value k
  field get k h q = ap get on.row ∙ q ∙ held k (omega arith)

  few : p ≤ 8
  few = (layout_points p row e).1

  -- whether the levels are blank
  mark_is : (layout_of p row).fields.computed ≡ mark
  unfolding row_layout
  mark_is = ap (λ (l : Layout). l.fields.computed) on.row

  level : (i : ℕ) → i < p → get_or (layout_of p row).levels i 0 ≡ value (5 + i)
  unfolding row_layout eight_from
  level i h =
      let v = listing (value_at Register (bare_line row)) (5 + p) ++ replicate (13 - (5 + p)) 0 in
      ap (λ (l : Layout). get_or l.levels i 0) on.row ∙ listing_at (λ j. get_or v (5 + j) 0) 0 8 i
      (omega (arith, few)) ∙ held (5 + i) (omega arith)

  given : (layout_of p row).fields.computed ≡ 1 → (i : ℕ) → i < p
      → column row (5 + i) ≡ show_level (get_or (layout_of p row).levels i 0)
  given one i h =
      let m : mark ≡ 1 = sym mark_is ∙ one in
      let b : blank_cell (5 + i) (field_of 44 (5 + i) (bare_line row)) ≡ false =
      rw (le-leb 5 (5 + i) (omega arith)) (on.blanks i h ∙ rw m refl) in
      (text (5 + i) (omega arith) b).0 ∙ shown_level (5 + i) (omega arith) (value (5 + i))
      ∙ ap show_level (sym (level i h))

  blank : (layout_of p row).fields.computed ≡ 0 → (i : ℕ) → i < p → column row (5 + i) ≡ []
  blank none i h =
      let m : mark ≡ 0 = sym mark_is ∙ none in
      let b : eqb (length (field_of 44 (5 + i) (bare_line row))) 0 ≡ true = on.blanks i h ∙ rw m refl in
      nil_of_lem (field_of 44 (5 + i) (bare_line row)) (eqb-true (length (field_of 44 (5 + i) (bare_line row))) 0 b)

  -- identity and mass have up to seven digits, a level up to 999.99
  pub value_below_rule : ((layout_of p row).fields.identity < 10000000) × ((layout_of p row).fields.mass < 10000000)
  unfolding row_layout top_of
  value_below_rule =
      let in0 : 0 < 5 + p = omega arith in
      let in2 : 2 < 5 + p = omega arith in (
        rw (field (λ l. l.fields.identity) 0 (omega arith) refl) (text 0 in0 (head 0 (omega arith))).1,
        rw (field (λ l. l.fields.mass) 2 (omega arith) refl) (text 2 in2 (head 2 (omega arith))).1,
      )

  pub level_below : (layout_of p row).fields.computed ≡ 1 → (i : ℕ) → i < p
      → get_or (layout_of p row).levels i 0 < 100000
  level_below one i h =
      let m : mark ≡ 1 = sym mark_is ∙ one in
      let b : blank_cell (5 + i) (field_of 44 (5 + i) (bare_line row)) ≡ false =
      rw (le-leb 5 (5 + i) (omega arith)) (on.blanks i h ∙ rw m refl) in
      rw (level i h, ← top_level_lem (5 + i) (omega arith)) (text (5 + i) (omega arith) b).1

  pub row_spelled : RowSpelled p row
  unfolding row_layout shown_cell top_of
  row_spelled =
      let in0 : 0 < 5 + p = omega arith in
      let in1 : 1 < 5 + p = omega arith in
      let in2 : 2 < 5 + p = omega arith in
      let in3 : 3 < 5 + p = omega arith in
      let in4 : 4 < 5 + p = omega arith in
      let type = field (λ l. l.fields.ty) 1 (omega arith) refl in
      let kind = field (λ l. l.fields.kind) 3 (omega arith) refl in
      let time = field (λ l. l.fields.time) 4 (omega arith) refl in
      record {
        identity = (text 0 in0 (head 0 (omega arith))).0 ∙ ap show_whole
            (sym (field (λ l. l.fields.identity) 0 (omega arith) refl));
        type = (text 1 in1 (head 1 (omega arith))).0 ∙ ap (λ n. get_or (bytes "GKH") n 0 ∷ []) (sym type);
        types = rw type (text 1 in1 (head 1 (omega arith))).1;
        mass = (text 2 in2 (head 2 (omega arith))).0 ∙ ap show_whole
            (sym (field (λ l. l.fields.mass) 2 (omega arith) refl));
        kind = (text 3 in3 (head 3 (omega arith))).0 ∙ ap (λ n. get_or (bytes "SL") n 0 ∷ []) (sym kind);
        kinds = rw kind (text 3 in3 (head 3 (omega arith))).1;
        time = (text 4 in4 (head 4 (omega arith))).0 ∙ ap show_time (sym time);
        times = rw time (text 4 in4 (head 4 (omega arith))).1;
        marks = rw mark_is on.most;
        given = given;
        blank = blank;
      }
