-- Read and written again: a row that is read gives the same bytes, with its CRLF. Assumes nothing.
use Rattle.std.specs.Prelude.{ℕ, zero, suc, ◌+◌, ◌-◌, ◌<◌, ◌≤◌, true, ◌&&◌, length, get_or, take, replicate}
use mathlib.Core.{Path.◌≡◌, Path.refl, Path.sym, Path.ap, Path.◌∙◌, List.List, List.[], List.◌∷◌, List.◌++◌}
use native.Mathlib.Omega.{arith}
use borrow.Author.Tests.{le-leb, leb-true, leb-false, eq-eqb, eqb-true, eqb-false}
use lib.ListN.{length-append, get_or-append}
use lib.{Seq.length-take-le, Seq.get_or-take, Dec.leb, Dec.eqb}
use Rattle.refusal.specs.Range.{all_within}
use Rattle.refusal.proofs.Laws.{and_left, and_right, refuse_none, nil_of_lem}
use Rattle.refusal.proofs.Ranges.{within_at, within_each}
use Rattle.movement.specs.Rules.{fields_fit, identity_fits, levels_fit}
use Rattle.text.specs.{Field.count_of, Field.field_of, Field.joined_by, Index.every, Index.many, Index.listing}
use Rattle.text.specs.{Line.bare_line, Spelled.crlf}
use Rattle.room.specs.Room.{front}
use Rattle.text.proofs.{Digits.either, Digits.got_value, Fields.fields_joined}
use Rattle.text.proofs.Indices.{every_each, many_zero, many_full, listing_at, listing_same, length_listing}
use Rattle.register.specs.Cell.{cell_at, got_at, value_at, blank_at, cell_text, cells_of}
use Rattle.register.specs.Row.{eight_from, fields_of, row_layout, cells_layout, layout_of, fault_of, row_refusal}
use Rattle.register.specs.Row.{RowRead}
use Rattle.register.specs.Write.{columns, text_at, show_line, show_row, zero_where_blank, row_levels_fit, write_fault}
use Rattle.register.specs.Write.{write_refusal, RowWritten}
use Rattle.register.specs.declared.cell.Table.TheVariants.{Register}
use Rattle.std.specs.Prelude.{Result}
use Rattle.refusal.specs.declared.Refusal.{Refusal}
use Rattle.refusal.specs.Refusal.{told}
use Rattle.register.specs.Row.{Layout}
use Rattle.register.specs.declared.row.Fields.{Fields}
use Rattle.register.proofs.Columns.{cell_exact, cell_blank, text_blank, text_marked, text_head}
use Rattle.register.proofs.{Writes.column_level, Rows.row_none_lem, Rows.layout_points}

-- a row on its layout: how many fields it has, that each was read, and what its levels leave blank
pub record OnLayout (n : ℕ) (s : List ℕ) (l : Layout) (mark : ℕ) : Type 0 where
  pub count : count_of 44 s + 1 ≡ 5 + n
  pub got : every (got_at Register s) (5 + n) ≡ true
  pub blanks : (i : ℕ) → i < n → blank_at s i ≡ eqb mark 0
  pub most : mark ≤ 1
  pub row : l ≡ row_layout (listing (value_at Register s) (5 + n) ++ replicate (13 - (5 + n)) 0) mark

-- a line whose layout is not refused is one of the two
on_layout_lem : (n : ℕ) (s : List ℕ) → (cells_layout n (cells_of Register (5 + n) s)).refusal ≡ 0
    → (mark : ℕ) × OnLayout n s (cells_layout n (cells_of Register (5 + n) s)) mark
unfolding cells_layout cells_of
on_layout_lem n s e =
    let good = eqb (count_of 44 s + 1) (5 + n) && every (got_at Register s) (5 + n) in
    let five : 5 + n - 5 ≡ n = omega arith in
    either good
    (λ fine. let count = eqb-true (count_of 44 s + 1) (5 + n)
    (and_left (eqb (count_of 44 s + 1) (5 + n)) (every (got_at Register s) (5 + n)) fine) in
    let got = and_right (eqb (count_of 44 s + 1) (5 + n)) (every (got_at Register s) (5 + n)) fine in
    either (eqb (many (blank_at s) (5 + n - 5)) 0)
    (λ none. let zero = eqb-true (many (blank_at s) (5 + n - 5)) 0 none in (
      1,
      record {
        count = count;
        got = got;
        blanks = λ i h. many_zero (blank_at s) n (rw five at zero) i h;
        most =
            omega arith;
        row = rw (fine, none);
      },
    ))
    (λ some. either (eqb (many (blank_at s) (5 + n - 5)) n)
    (λ all. let full = eqb-true (many (blank_at s) (5 + n - 5)) n all in (
      0,
      record {
        count = count;
        got = got;
        blanks = λ i h. many_full (blank_at s) n (rw five at full) i h;
        most =
            omega arith;
        row = rw (fine, some, all);
      },
    ))
    (λ few. let z : ◌≡◌ {A = ℕ} 16 0 = rw (fine, some, few) at e in absurd (omega arith))))
    (λ bad. let z : ◌≡◌ {A = ℕ} 16 0 = rw bad at e in absurd (omega arith))

module _ (n : ℕ) (s : List ℕ) (l : Layout) (mark : ℕ) (on : OnLayout n s l mark) (least : 1 ≤ n)
    (few : n ≤ 8) where
  values : List ℕ
  values = listing (value_at Register s) (5 + n) ++ replicate (13 - (5 + n)) 0

  value_at_rule : (k : ℕ) → k < 5 + n → get_or values k 0 ≡ value_at Register s k
  unfolding values
  value_at_rule k h =
      get_or-append (listing (value_at Register s) (5 + n)) (replicate (13 - (5 + n)) 0) 0 k
      (rw (length_listing (value_at Register s) (5 + n)) h)
      ∙ listing_at (value_at Register s) (5 + n) k 0 h

  -- the levels of the points
  taken : List ℕ
  taken = take n (eight_from 5 values)

  taken_length : length taken ≡ n
  unfolding taken eight_from
  taken_length = length-take-le n (listing (λ i. get_or values (5 + i) 0) 8)
      (rw (length_listing (λ i. get_or values (5 + i) 0) 8) few)

  taken_at : (i : ℕ) → i < n → get_or taken i 0 ≡ get_or values (5 + i) 0
  unfolding taken eight_from
  taken_at i h =
      get_or-take n (listing (λ j. get_or values (5 + j) 0) 8) i 0 h
      ∙ listing_at (λ j. get_or values (5 + j) 0) 8 i 0 (omega arith)

  -- the columns of the row that was read are the values of its fields
  column_value : (k : ℕ) → k < 5 + n → get_or (columns (fields_of values mark) taken) k 0 ≡ value_at Register s k
  column_value k h =
      either (leb 5 k)
      (λ yes. let five = leb-true 5 k yes in
      let e : 5 + (k - 5) ≡ k = omega arith in
      column_level (fields_of values mark) taken k five ∙ taken_at (k - 5) (omega arith)
      ∙ ap (λ j. get_or values j 0) e ∙ value_at_rule k h)
      (λ no. head_value k (leb-false 5 k no) ∙ value_at_rule k h)
    where
      head_value : (k : ℕ) → k < 5 → get_or (columns (fields_of values mark) taken) k 0 ≡ get_or values k 0
      head_value zero h = refl
      head_value (suc zero) h = refl
      head_value (suc (suc zero)) h = refl
      head_value (suc (suc (suc zero))) h = refl
      head_value (suc (suc (suc (suc zero)))) h = refl
      head_value (suc (suc (suc (suc (suc k))))) h = absurd (omega arith)

  -- each field is the text of its value
  field_exact : (k : ℕ) → k < 5 + n → field_of 44 k s ≡ cell_text mark k (value_at Register s k)
  field_exact k h =
      let got = got_value (cell_at Register s k) (every_each (got_at Register s) k (5 + n) h on.got) in
      let v = value_at Register s k in
      either (leb 5 k)
      (λ yes. let five = leb-true 5 k yes in
      let e : 5 + (k - 5) ≡ k = omega arith in
      let blank : eqb (length (field_of 44 k s)) 0 ≡ eqb mark 0 =
      ap (λ j. eqb (length (field_of 44 j s)) 0) (sym e) ∙ on.blanks (k - 5) (omega arith) in
      either (eqb mark 0)
      (λ none. nil_of_lem (field_of 44 k s) (eqb-true (length (field_of 44 k s)) 0 (blank ∙ none))
      ∙ sym (text_blank mark k v five (eqb-true mark 0 none)))
      (λ some. (cell_exact k (field_of 44 k s) v got (rw yes (blank ∙ some))).0
      ∙ sym (text_marked mark k v (eqb-false mark 0 some))))
      (λ no. (cell_exact k (field_of 44 k s) v got (rw no)).0 ∙ sym (text_head mark k v (leb-false 5 k no)))

  -- so is the line
  line_exact : show_line (fields_of values mark) taken ≡ s
  unfolding show_line
  line_exact =
      let size : 5 + length taken ≡ suc (4 + n) = omega (arith, taken_length) in
      let count : count_of 44 s ≡ 4 + n = omega (arith, on.count) in
      rw size
      (ap (joined_by 44) (listing_same (text_at (fields_of values mark) taken) (λ k. field_of 44 k s) (suc (4 + n))
      (λ k h.
      let b : k < 5 + n = omega arith in
      ap (cell_text mark k) (column_value k b) ∙ sym (field_exact k b)))
      ∙ fields_joined 44 (4 + n) s count)

  -- its levels are in range where all that was read is, and zero where they were blank
  within_taken : all_within 12000 (eight_from 5 values) ≡ true → all_within 12000 taken ≡ true
  unfolding taken
  within_taken e = within_each 12000 taken (λ i h.
      let b : i < n = omega (arith, taken_length) in
      omega (arith, get_or-take n (eight_from 5 values) i 0 b, within_at 12000 (eight_from 5 values) i e))

  zero_taken : mark ≡ 0 → all_within 0 taken ≡ true
  zero_taken z = within_each 0 taken (λ i h.
      let b : i < n = omega (arith, taken_length) in
      let k : 5 + i < 5 + n = omega arith in
      let v = value_at Register s (5 + i) in
      let got = got_value (cell_at Register s (5 + i)) (every_each (got_at Register s) (5 + i) (5 + n) k on.got) in
      let blank = eqb-true (length (field_of 44 (5 + i) s)) 0 (on.blanks i b ∙ eq-eqb mark 0 z) in
      omega (
        arith,
        taken_at i b,
        value_at_rule (5 + i) k,
        cell_blank (5 + i) (field_of 44 (5 + i) s) v
            (omega arith) got blank,
      ))

  blank_taken : zero_where_blank mark taken ≡ true
  blank_taken = either (eqb mark 0) (λ none. rw none (zero_taken (eqb-true mark 0 none))) (λ some. rw some)

  -- and it can be written where it was not refused
  fault_again : fault_of (fields_of values mark) (all_within 12000 (eight_from 5 values)) ≡ 0
      → write_fault n (fields_of values mark) taken ≡ 0
  unfolding write_fault fault_of row_levels_fit levels_fit
  fault_again e =
      let f = fields_of values mark in
      let one = refuse_none 1 (fields_fit f.ty f.kind f.time f.mass) _ (omega arith) e in
      let three = refuse_none 3 (identity_fits f.identity) _ (omega arith) one.1 in
      let seven = refuse_none 7 (all_within 12000 (eight_from 5 values)) 0 (omega arith) three.1 in
      rw (
        le-leb 1 n least,
        le-leb n 8 few,
        le-leb mark 1 on.most,
        one.0,
        three.0,
        eq-eqb (length taken) n taken_length,
        within_taken seven.0,
        blank_taken,
      )

-- what the layout of a row that is not refused is
module _ (n : ℕ) (s : List ℕ) (e : (layout_of n s).refusal ≡ 0) where
  points : (1 ≤ n) × (n ≤ 8)
  points = layout_points n s e

  opened : layout_of n s ≡ cells_layout n (cells_of Register (5 + n) (bare_line s))
  unfolding layout_of
  opened = rw (le-leb 1 n points.0, le-leb n 8 points.1)

  pub marked : (mark : ℕ) × OnLayout n (bare_line s) (layout_of n s) mark
  marked = rw opened (on_layout_lem n (bare_line s) (rw opened at e))

-- a row that is read by its layout is, written again, the same bytes with its CRLF
pub layout_exact : (n : ℕ) (s : List ℕ) → (layout_of n s).refusal ≡ 0
    → show_row (layout_of n s).fields (take n (layout_of n s).levels) ≡ bare_line s ++ (13 ∷ 10 ∷ [])
unfolding row_layout values taken
layout_exact n s e =
    let o = marked n s e in
    let p = points n s e in
    ap (λ r. show_row r.fields (take n r.levels)) o.1.row
    ∙ ap (λ t. t ++ (13 ∷ 10 ∷ [])) (line_exact n (bare_line s) (layout_of n s) o.0 o.1 p.0 p.1)

-- and a row that is read without a refusal can be written
pub read_writable : (n : ℕ) (s : List ℕ) (room : ℕ) → row_refusal n (layout_of n s) room ≡ 0
    → write_fault n (layout_of n s).fields (take n (layout_of n s).levels) ≡ 0
unfolding row_layout values taken
read_writable n s room e =
    let none = row_none_lem n (layout_of n s) room e in
    let o = marked n s none.0 in
    let p = points n s none.0 in
    ap (λ r. write_fault n r.fields (take n r.levels)) o.1.row
    ∙ fault_again n (bare_line s) (layout_of n s) o.0 o.1 p.0 p.1
    (sym (ap (λ r. fault_of r.fields (all_within 12000 r.levels)) o.1.row) ∙ none.1)

-- a call that read a row, and a call that writes what was read: the same bytes, with its CRLF
pub read_back : {n : ℕ} {line held got old new : List ℕ} {read : Result Fields Refusal} {answer : Result ℕ Refusal}
    → RowRead n line held read got → told read ≡ 0
    → RowWritten n (layout_of n line).fields (take n (layout_of n line).levels) old answer new
    → length (bare_line line) + 2 ≤ length old
    → (told answer ≡ 0) × (new ≡ front (bare_line line ++ crlf) old)
unfolding write_refusal
read_back {n} {line} {held} {got} {old} r e w room =
    let none = sym r.number ∙ e in
    let text = layout_exact n line (row_none_lem n (layout_of n line) (length held) none).0 in
    let fits = le-leb (length (bare_line line ++ (13 ∷ 10 ∷ []))) (length old)
    (rw (length-append (bare_line line) (13 ∷ 10 ∷ [])) room) in
    let zero = read_writable n line (length held) none in
    (w.number ∙ rw (zero, text, fits), w.bytes ∙ rw (zero, text, fits))
