-- Register rows: from the library's answer to numbers in lent room. Assumes nothing.
use Prim.Native.Nat.{ℕ, ◌+◌, ◌≤◌}
use mathlib.Core.Path.{◌≡◌, refl, sym, ap, ◌∙◌}
use mathlib.Core.{Bool.Bool, Bool.true, Bool.false, Bool.cond, Bool.◌&&◌, List.List, List.[]}
use native.Mathlib.Omega.{arith}
use borrow.Author.Tests.{le-leb, ne_eqb, eqb-true}
use lib.{Dec.leb, Dec.eqb, ListN.length, ListN.get_or, ListN.take, Seq.length-take-le}
use Rattle.text.proofs.{Digits.either, Indices.length_listing}
use Rattle.text.specs.Line.{bare_line}
use Rattle.room.specs.Room.{front, fits_in, then_room, WritesTwo}
use Rattle.register.specs.Cell.{Cells}
use Rattle.register.specs.declared.cell.Table.TheVariants.{Register}
use Rattle.register.specs.Cell.{cells_of}
use Rattle.std.specs.Prelude.{Result, Ok, Err}
use Rattle.refusal.specs.Refusal.{number_of}
use Rattle.refusal.specs.declared.Refusal.{Refusal}
use Rattle.refusal.proofs.Laws.{numbered}
use Rattle.register.specs.declared.row.{Fields.Fields}
use Rattle.register.specs.Row.{Layout, points_fit, layout_of, cells_layout, row_layout, eight_from, off_layout, field_list}
use Rattle.register.specs.Row.{row_refusal, RowRead}
use Rattle.register.proofs.Rows.{layout_points}
use Rattle.okubinrafo.specs.Rows.{row_fault}
use Rattle.room.proofs.Answers.{short_of_lem, fine_but_short, refuse_two, write_two}

-- a row has eight levels, zero past its points
either_eight : (b : Bool) (x y : Layout) → length x.levels ≡ 8 → length y.levels ≡ 8
    → length (cond b x y).levels ≡ 8
either_eight true x y p q = p
either_eight false x y p q = q

row_eight : (v : List ℕ) (mark : ℕ) → length (row_layout v mark).levels ≡ 8
unfolding row_layout eight_from
row_eight v mark = length_listing (λ i. get_or v (5 + i) 0) 8

cells_eight : (points : ℕ) (c : Cells) → length (cells_layout points c).levels ≡ 8
unfolding cells_layout
cells_eight points c =
    let not-computed = cond (eqb c.blanks points) (row_layout c.values 0) off_layout in
    either_eight c.read (cond (eqb c.blanks 0) (row_layout c.values 1) not-computed) off_layout
    (either_eight (eqb c.blanks 0) (row_layout c.values 1) not-computed (row_eight c.values 1)
    (either_eight (eqb c.blanks points) (row_layout c.values 0) off_layout (row_eight c.values 0) refl))
    refl

eight : (points : ℕ) (line : List ℕ) → length (layout_of points line).levels ≡ 8
unfolding layout_of
eight points line =
    let cells = cells_of Register (5 + points) (bare_line line) in
    either_eight (points_fit points) (cells_layout points cells) off_layout (cells_eight points cells) refl

-- the library's refusal of a row that was read is its fault, and then the room for its levels
row_then : (points : ℕ) (l : Layout) (room : ℕ)
    → row_refusal points l room ≡ then_room (row_fault l) (leb points room)
unfolding row_refusal row_fault
row_then points l room = either (eqb l.refusal 0) (λ e. rw e refl) (λ e. rw e refl)

-- with room for the fields, the room that is looked at is that for the levels
row_room : (points : ℕ) (line fields levels : List ℕ) → 6 ≤ length fields
    → then_room (row_fault (layout_of points line))
    (fits_in (field_list (layout_of points line).fields) fields && fits_in (take points (layout_of points line).levels)
    levels)
    ≡ then_room (row_fault (layout_of points line)) (leb points (length levels))
unfolding row_fault
row_room points line fields levels h =
    let l = layout_of points line in
    either (eqb l.refusal 0)
    (λ e.
    let few : points ≤ length l.levels =
    omega (arith, (layout_points points line (eqb-true l.refusal 0 e)).1, eight points line) in
    rw (le-leb 6 (length fields) h, length-take-le points l.levels few) refl)
    (λ e. rw e refl)

module _ (points : ℕ) (line levels : List ℕ) {answer : Result Fields Refusal} {levels' : List ℕ}
    (read : RowRead points line levels answer levels') where
  abbrev layout : Layout
  layout = layout_of points line

  -- what was answered
  refusal_of_rule : {why : Refusal} → answer ≡ Err why
      → (number_of why ≡ row_refusal points layout (length levels)) × (number_of why ≡ 0 → ⊥)
  refusal_of_rule {why} e = (rw e at read.number, λ z. let low = numbered why in omega (arith, low, z))

  fine_of : {f : Fields} → answer ≡ Ok f → 0 ≡ row_refusal points layout (length levels)
  fine_of e = rw e at read.number

  -- where there is no room for the fields
  pub row_faulty : {why : Refusal} → answer ≡ Err why → number_of why ≡ then_room (row_fault layout) false
  row_faulty {why} e =
      let w = refusal_of_rule e in
      short_of_lem (row_fault layout) (number_of why) (leb points (length levels))
      (w.0 ∙ row_then points layout (length levels)) w.1

  pub row_fine : {f : Fields} → answer ≡ Ok f → 14 ≡ then_room (row_fault layout) false
  row_fine e =
      fine_but_short (row_fault layout) (leb points (length levels))
      (fine_of e ∙ row_then points layout (length levels))

  -- where there is
  pub row_refused : {why : Refusal} {k : ℕ} (fields : List ℕ) → 6 ≤ length fields → answer ≡ Err why
      → k ≡ number_of why
      → WritesTwo (row_fault layout) (field_list layout.fields) (take points layout.levels)
      fields levels k fields levels'
  row_refused {why} fields h e is =
      let w = refusal_of_rule e in
      let same : levels' ≡ levels = rw (sym w.0, ne_eqb (number_of why) 0 w.1) at read.levels in
      let refused =
      row_room points line fields levels h ∙ sym (row_then points layout (length levels)) ∙ sym w.0 in
      rw (same, is) (refuse_two refused w.1)

  pub row_read : {f : Fields} {fields' : List ℕ} (fields : List ℕ) → 6 ≤ length fields → answer ≡ Ok f
      → fields' ≡ front (field_list f) fields
      → WritesTwo (row_fault layout) (field_list layout.fields) (take points layout.levels)
      fields levels 0 fields' levels'
  row_read {f} fields h e p =
      let none = sym (fine_of e) in
      let got : field_list f ≡ field_list layout.fields = rw (e, none) at read.values in
      let put_in = rw none at read.levels in
      write_two (row_room points line fields levels h ∙ sym (row_then points layout (length levels)) ∙ none)
      (p ∙ ap (λ t. front t fields) got)
      put_in
