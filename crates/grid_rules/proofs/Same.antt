-- A text that is read, and lies as the text of its network is written, is that text. Assumes nothing.
use Prim.Native.Nat.{ℕ, suc, ◌+◌, ◌-◌, ◌≤◌, ◌<◌}
use mathlib.Core.{Path.◌≡◌, Path.refl, Path.sym, Path.subst, List.List, List.[], Bool.true, Bool.false}
use native.Mathlib.Omega.{arith}
use lib.{ListN.length, ListN.get_or, ListN.drop, ListN.length-drop, Seq.get_or-drop}
use Rattle.text.specs.{Line.lines_of, Field.count_of, Field.field_of, Number.decimal_of}
use Rattle.std.specs.Prelude.{Some}
use Rattle.text.proofs.Thousandths.{three_read}
use Rattle.grid.specs.Row.{all, values_of, has_three, row_three}
use Rattle.grid.specs.File.{names, sixth}
use Rattle.grid.specs.{Read.text_frame, Read.text_levels, Read.read_refusal, Write.show_network}
use Rattle.grid.proofs.Again.{network_again}
use Rattle.grid_rules.specs.Laid.{line, Named, Laid, Three, Written}
use Rattle.grid_rules.proofs.{Places.value_field, Places.value_count, Lines.all_from, Said.other_names}
use Rattle.grid_rules.proofs.Order.{refused}

module _ (text : List ℕ) (headers room : ℕ) (read : read_refusal text headers room ≡ 0) (plain : Named text → ⊥)
    (says : Laid Three text (text_levels text) (text_frame text) 5) where
  three_at : (k c : ℕ) → k < length (drop 5 (lines_of text))
      → c < length (values_of (get_or (drop 5 (lines_of text)) k []))
      → has_three (get_or (values_of (get_or (drop 5 (lines_of text)) k [])) c []) ≡ true
  three_at k c h l =
      let f = text_frame text in
      let at : get_or (drop 5 (lines_of text)) k [] ≡ line text (5 + k) = get_or-drop 5 (lines_of text) k [] in
      let few : k < f.rows = omega (arith, says.size.height, length-drop 5 (lines_of text)) in
      let place : f.rows - suc (f.rows - suc k) ≡ k = omega arith in
      let inside : c < length (values_of (line text (5 + k))) = rw at at l in
      let in_row : c ≤ count_of 32 (line text (5 + k)) = omega (arith, value_count (line text (5 + k))) in
      let wide : c < f.columns = omega (arith, says.size.width k few) in
      let south : f.rows - suc k < f.rows = omega arith in
      let is = rw place at (says.level (f.rows - suc k) c south wide) in
      let given = ((refused text headers room).unnamed plain).sound (λ e. omega (arith, read, e))
      (λ e. omega (arith, read, e)) (λ e. omega (arith, read, e)) (5 + k) c (omega arith)
      (omega (arith, length-drop 5 (lines_of text))) in_row in
      let t = field_of 32 c (line text (5 + k)) in
      let got : decimal_of 3 t ≡ Some given.number =
      three_read t _ given.number (omega (arith, given.most)) given.is is in
      rw (at, value_field (line text (5 + k)) c, got) refl

-- a text that is read and says its network with three decimals, without a NODATA_value line and with its last CRLF, is
-- the text that is written of that network
pub written_again : (text : List ℕ) (headers room : ℕ) → read_refusal text headers room ≡ 0 → (Named text → ⊥)
    → Written text (text_levels text) (text_frame text) → show_network (text_levels text) (text_frame text) ≡ text
written_again text headers room read plain says =
    let three : all row_three (drop 5 (lines_of text)) ≡ true =
    all_from row_three (drop 5 (lines_of text)) []
    (λ k h. all_from has_three (values_of (get_or (drop 5 (lines_of text)) k [])) []
    (λ c l. three_at text headers room read plain says.laid k c h l)) in
    subst (λ (t : List ℕ). read_refusal t headers room ≡ 0 → names (sixth (lines_of t)) ≡ false
    → all row_three (drop 5 (lines_of t)) ≡ true → show_network (text_levels t) (text_frame t) ≡ t)
    (sym says.ended) (network_again says.before headers room) read (other_names text plain) three
