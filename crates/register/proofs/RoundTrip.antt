-- Written and read again: the fields of a row are the same values. Assumes nothing.
use Rattle.std.specs.Prelude.{ℕ, zero, suc, ◌+◌, ◌-◌, ◌<◌, ◌≤◌, true, length, get_or, take, drop, replicate}
use mathlib.Core.{Path.◌≡◌, Path.refl, Path.sym, Path.ap, Path.◌∙◌, List.List, List.[], List.◌∷◌, List.◌++◌}
use native.Mathlib.Omega.{arith}
use borrow.Author.Tests.{le-leb, eq-eqb, ne_eqb, eqb-true, eqb-false}
use lib.ListN.{length-append, length-replicate}
use lib.{Seq.take_at, Dec.leb, Dec.eqb}
use Rattle.refusal.specs.Range.{all_within}
use Rattle.refusal.proofs.{Laws.and_left, Laws.and_right, Ranges.within_at}
use Rattle.text.specs.{Number.is_got, Number.value_of, Field.count_of, Field.field_of, Index.many, Index.listing}
use Rattle.room.specs.Room.{front}
use Rattle.std.specs.Prelude.{Some}
use Rattle.text.proofs.{Digits.either, Fields.Free, Fields.join_field, Fields.join_count_all}
use Rattle.text.proofs.Indices.{every_all, many_no, many_all, listing_at, listing_of, length_listing}
use Rattle.text.proofs.{Lines.bare_back, Shown.level_least}
use Rattle.register.specs.Cell.{row_cell, cell_at, got_at, value_at, blank_at, cell_text, cells_of, got_cells}
use Rattle.register.specs.Row.{eight_from, row_layout, cells_layout, layout_of, fault_of, row_refusal}
use Rattle.register.specs.Row.{answer_values, field_list, RowRead}
use Rattle.register.specs.Write.{columns, text_at, show_line, show_row, write_fault, write_refusal}
use Rattle.register.specs.Write.{RowWritten}
use Rattle.register.specs.declared.cell.Table.TheVariants.{Register}
use Rattle.std.specs.Prelude.{Result}
use Rattle.refusal.specs.declared.Refusal.{Refusal}
use Rattle.refusal.specs.Refusal.{told}
use Rattle.register.specs.Row.{Layout}
use Rattle.register.specs.declared.row.Fields.{Fields}
use Rattle.register.proofs.Columns.{text_no_comma, text_back, text_blank, text_marked, shown_level}
use Rattle.register.proofs.Writes.{Fine, fault_fine, fine_writable, column_level}
use Rattle.room.proofs.Answers.{first_none_lem}

-- the layout of a row with its levels, zero past them
abbrev pub on_layout : Fields → List ℕ → Layout
on_layout f levels = record { refusal = 0; fields = f; levels = levels ++ replicate (8 - length levels) 0 }

module _ (n : ℕ) (f : Fields) (levels : List ℕ) (fine : Fine n f levels) where
  texts : List (List ℕ)
  texts = listing (text_at f levels) (5 + length levels)

  texts_length : length texts ≡ 5 + length levels
  unfolding texts
  texts_length = length_listing (text_at f levels) (5 + length levels)

  free : Free 44 texts
  unfolding texts
  free k h =
      let l : k < 5 + length levels = omega (arith, texts_length) in
      ap (count_of 44) (listing_at (text_at f levels) (5 + length levels) k [] l)
      ∙ text_no_comma f.computed k (get_or (columns f levels) k 0) ((fine_writable fine).below k l)

  -- each field is the text of its column, and reads as its value
  field_text_rule : (k : ℕ) → k < 5 + length levels → field_of 44 k (show_line f levels) ≡ text_at f levels k
  unfolding texts show_line
  field_text_rule k h = join_field 44 texts free k (omega (arith, texts_length))
      ∙ listing_at (text_at f levels) (5 + length levels) k [] h

  zero_blank : (k : ℕ) → f.computed ≡ 0 → 5 ≤ k → get_or (columns f levels) k 0 ≡ 0
  zero_blank k z h = column_level f levels k h ∙ (let w = within_at 0 levels (k - 5) (fine.zeros z) in omega arith)

  cell_text_rule : (k : ℕ) → k < 5 + length levels
      → cell_at Register (show_line f levels) k ≡ Some (get_or (columns f levels) k 0)
  cell_text_rule k h =
      ap (row_cell k) (field_text_rule k h)
      ∙ text_back f.computed k (get_or (columns f levels) k 0) ((fine_writable fine).below k h) (zero_blank k)

  count_back : count_of 44 (show_line f levels) + 1 ≡ 5 + length levels
  unfolding texts show_line
  count_back = join_count_all 44 texts free (omega (arith, texts_length)) ∙ texts_length

  values_back : listing (value_at Register (show_line f levels)) (5 + length levels) ≡ columns f levels
  values_back =
      let e : length (columns f levels) ≡ 5 + length levels = omega arith in
      rw e at (listing_of (value_at Register (show_line f levels)) (columns f levels) 0
      (λ k h. ap value_of (cell_text_rule k (omega arith))))

  -- the blank levels: none where the row is computed, and all where it is not
  field_level : (i : ℕ) → i < length levels
      → field_of 44 (5 + i) (show_line f levels) ≡ cell_text f.computed (5 + i) (get_or (columns f levels) (5 + i) 0)
  field_level i h = field_text_rule (5 + i) (omega arith)

  blanks_none : (f.computed ≡ 0 → ⊥) → many (blank_at (show_line f levels)) (length levels) ≡ 0
  blanks_none some = many_no (blank_at (show_line f levels)) (length levels) (λ i h.
      let v = get_or (columns f levels) (5 + i) 0 in
      let text = field_level i h ∙ text_marked f.computed (5 + i) v some ∙ shown_level (5 + i) (omega arith) v in
      ne_eqb (length (field_of 44 (5 + i) (show_line f levels))) 0 (λ e. omega (arith, ap length text, level_least v)))

  blanks_all : f.computed ≡ 0 → many (blank_at (show_line f levels)) (length levels) ≡ length levels
  blanks_all none = many_all (blank_at (show_line f levels)) (length levels) (λ i h.
      let text = field_level i h
      ∙ text_blank f.computed (5 + i) (get_or (columns f levels) (5 + i) 0) (omega arith) none in
      eq-eqb (length (field_of 44 (5 + i) (show_line f levels))) 0 (ap length text))

  cells_back : cells_of Register (5 + n) (show_line f levels)
      ≡ got_cells (many (blank_at (show_line f levels)) (length levels))
      (columns f levels ++ replicate (8 - length levels) 0)
  unfolding cells_of
  cells_back =
      let five : 5 + length levels - 5 ≡ length levels = omega arith in
      let rest : 13 - (5 + length levels) ≡ 8 - length levels = omega arith in
      rw (
        ← fine.size,
        eq-eqb (count_of 44 (show_line f levels) + 1) (5 + length levels) count_back,
        every_all (got_at Register (show_line f levels)) (5 + length levels) (λ k h. ap is_got (cell_text_rule k h)),
        values_back,
        five,
        rest,
      )

  -- eight levels, zero past the points
  eight_back : eight_from 5 (columns f levels ++ replicate (8 - length levels) 0) ≡ levels
      ++ replicate (8 - length levels) 0
  unfolding eight_from
  eight_back =
      let l = levels ++ replicate (8 - length levels) 0 in
      let few = fine.points_most in
      let e : length l ≡ 8 = length-append levels (replicate (8 - length levels) 0)
      ∙ ap (λ k. length levels + k) (length-replicate {A = ℕ} (8 - length levels) 0)
      ∙ (let w : length levels + (8 - length levels) ≡ 8 = omega (arith, fine.size) in w) in
      let at : (i : ℕ) → get_or (columns f l) (5 + i) 0 ≡ get_or l i 0 =
      λ i. column_level f l (5 + i) (omega arith)
      ∙ (let w : 5 + i - 5 ≡ i = omega arith in ap (λ k. get_or l k 0) w) in
      rw e at (listing_of (λ i. get_or (columns f l) (5 + i) 0) l 0 (λ i h. at i))

  row_back : row_layout (columns f levels ++ replicate (8 - length levels) 0) f.computed ≡ on_layout f levels
  unfolding row_layout
  row_back = rw eight_back

  cells_layout_back : cells_layout n (cells_of Register (5 + n) (show_line f levels)) ≡ on_layout f levels
  unfolding cells_layout
  cells_layout_back =
      let least = fine.points_least in
      let size = fine.size in
      either (eqb f.computed 0)
      (λ yes. let z = eqb-true f.computed 0 yes in
      rw (cells_back, blanks_all z, ne_eqb (length levels) 0 (λ e. omega arith), eq-eqb (length levels) n size)
      (ap (row_layout (columns f levels ++ replicate (8 - length levels) 0)) (sym z) ∙ row_back))
      (λ no. let z = eqb-false f.computed 0 no in
      let one : 1 ≡ f.computed = omega (arith, z, fine.mark_most) in
      rw (cells_back, blanks_none z) (ap (row_layout (columns f levels ++ replicate (8 - length levels) 0)) one
      ∙ row_back))

  pub layout_back : layout_of n (show_row f levels) ≡ on_layout f levels
  unfolding layout_of
  layout_back =
      rw (le-leb 1 n fine.points_least, le-leb n 8 fine.points_most, bare_back (show_line f levels))
      cells_layout_back

-- levels filled up with zeros are in range where they are
within_zeros : (top k : ℕ) (l : List ℕ) → all_within top l ≡ true → all_within top (l ++ replicate k 0) ≡ true
unfolding all_within
within_zeros top zero [] e = refl
within_zeros top (suc k) [] e = rw (le-leb 0 top (omega arith)) (within_zeros top k [] refl)
within_zeros top k (v ∷ l) e =
    rw (and_left (leb v top) (all_within top l) e) (within_zeros top k l (and_right (leb v top) (all_within top l) e))

-- a row that can be written is read without a refusal but for room
pub refusal_back : (n : ℕ) (f : Fields) (levels : List ℕ) (room : ℕ) → Fine n f levels → n ≤ room
    → row_refusal n (on_layout f levels) room ≡ 0
unfolding row_refusal fault_of
refusal_back n f levels room fine h =
    rw (fine.fields, fine.identity, within_zeros 12000 (8 - length levels) levels fine.within, le-leb n room h)

-- a call that wrote a row, and a call that reads what it wrote: the same fields and the same levels
pub written_back : {n : ℕ} {f : Fields} {levels old new held got : List ℕ} {answer : Result ℕ Refusal}
    {read : Result Fields Refusal}
    → RowWritten n f levels old answer new → told answer ≡ 0
    → RowRead n (take (length (show_row f levels)) new) held read got → n ≤ length held
    → (told read ≡ 0) × (answer_values read ≡ field_list f) × (got ≡ front levels held)
unfolding write_refusal
written_back {n} {f} {levels} {old} {new} {held} {got} {answer} {read} w e r h =
    let none = sym w.number ∙ e in
    let fine = fault_fine n f levels (first_none_lem (write_fault n f levels) _ none).0 in
    let text : take (length (show_row f levels)) new ≡ show_row f levels =
    ap (take (length (show_row f levels))) (w.bytes ∙ rw (eq-eqb _ 0 none))
    ∙ take_at (show_row f levels) (drop (length (show_row f levels)) old) (length (show_row f levels)) refl in
    let l : layout_of n (take (length (show_row f levels)) new) ≡ on_layout f levels = ap (layout_of n) text
    ∙ layout_back n f levels fine in
    let zero : row_refusal n (layout_of n (take (length (show_row f levels)) new)) (length held) ≡ 0 =
    ap (λ x. row_refusal n x (length held)) l ∙ refusal_back n f levels (length held) fine h in
    let on = eq-eqb (row_refusal n (layout_of n (take (length (show_row f levels)) new)) (length held)) 0 zero in (
      r.number ∙ zero,
      r.values ∙ rw on (ap (λ x. field_list x.fields) l),
      r.levels ∙ rw on (ap (λ x. front (take n x.levels) held) l
          ∙ ap (λ v. front v held) (take_at levels (replicate (8 - length levels) 0) n fine.size)),
    )
