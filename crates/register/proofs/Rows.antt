-- Laws of a row's refusals and of limits.csv. Assumes nothing.
use Rattle.std.specs.Prelude.{ℕ, ◌+◌, ◌-◌, ◌/◌, ◌%◌, ◌<◌, ◌≤◌}
use Rattle.std.proofs.lemmas.List.{get_or-take, get_or-drop}
use Rattle.text.proofs.Indices.{listing_of}
use Rattle.std.specs.Prelude.{Err}
use Rattle.refusal.specs.Refusal.{number_of}
use Rattle.refusal.specs.declared.Refusal.{Refusal}
use Rattle.refusal.proofs.Laws.{numbered}
use Rattle.text.specs.Line.{bare_line}
use Rattle.register.specs.declared.cell.Table.TheVariants.{Register}
use Rattle.register.specs.Row.{eight_from, layout_told, RowRead, cells_layout, row_layout}
use mathlib.Core.{Path.◌≡◌, Path.ap, Path.sym, Path.◌∙◌, List.List, List.[], Bool.false, Bool.◌&&◌}
use native.Mathlib.Omega.{arith}
use borrow.Author.Tests.{leb-true, ltb-true, eqb-true, ne_eqb}
use lib.{ListN.length, ListN.take, ListN.drop, ListN.get_or, ListN.length-drop, Seq.length-take-le, Dec.leb, Dec.ltb, Dec.eqb}
use Rattle.refusal.specs.{Refuse.refuse, Range.all_within}
use Rattle.refusal.proofs.Laws.{and_left, and_right, refuse_none}
use Rattle.text.specs.{Field.count_of, Same.same_text}
use Rattle.std.specs.Prelude.{Some}
use Rattle.text.proofs.Digits.{either, passed}
use Rattle.register.specs.{Cell.cells_of, Row.points_fit, Row.layout_of, Row.fault_of, Row.row_refusal}
use Rattle.register.specs.Header.{header_of}
use Rattle.room.proofs.Answers.{first_none_lem}
use Rattle.register.specs.declared.cell.Table.{Table}
use Rattle.register.specs.Row.{Layout}
use Rattle.register.proofs.Readings.{cells_other}

-- a row that was read: its layout, its rules and its room
pub row_none_lem : (n : ℕ) (l : Layout) (room : ℕ) → row_refusal n l room ≡ 0
    → (l.refusal ≡ 0) × (fault_of l.fields (all_within 12000 l.levels) ≡ 0) × (n ≤ room)
unfolding row_refusal
row_none_lem n l room e =
    let on = refuse_none 16 (eqb l.refusal 0) _ (omega arith) e in
    let fine = first_none_lem (fault_of l.fields (all_within 12000 l.levels)) (refuse 14 (leb n room) 0) on.1 in (
      eqb-true l.refusal 0 on.0,
      fine.0,
      leb-true n room (refuse_none 14 (leb n room) 0 (omega arith) fine.1).0,
    )

-- only 1 to 8 points have a layout
pub layout_points : (n : ℕ) (s : List ℕ) → (layout_of n s).refusal ≡ 0 → (1 ≤ n) × (n ≤ 8)
unfolding layout_of
layout_points n s e =
    either (points_fit n)
    (λ yes. (leb-true 1 n (and_left (leb 1 n) (leb n 8) yes), leb-true n 8 (and_right (leb 1 n) (leb n 8) yes)))
    (λ no. let z : ◌≡◌ {A = ℕ} 16 0 = rw no at e in absurd (omega arith))

-- a header has 1 to 8 points
pub header_range : (full : List ℕ) (lead : ℕ) (s : List ℕ) (n : ℕ) → header_of full lead s ≡ Some n
    → (1 ≤ n) × (n ≤ 8) × (lead < length s)
unfolding header_of
header_range full lead s n e =
    let m = length s - lead in
    let a = ltb lead (length s) in
    let b = a && leb (length s) (length full) in
    let d = b && eqb (m % 3) 0 in
    let f = d && leb (m / 3) 8 in
    let p = passed (f && same_text s (take (length s) full)) (Some (m / 3)) n e in
    let all = and_left f (same_text s (take (length s) full)) p.0 in
    let three = and_left d (leb (m / 3) 8) all in
    let more = ltb-true lead (length s)
    (and_left a (leb (length s) (length full)) (and_left b (eqb (m % 3) 0) three)) in
    let whole = eqb-true (m % 3) 0 (and_right b (eqb (m % 3) 0) three) in
    let most = leb-true (m / 3) 8 (and_right d (leb (m / 3) 8) all) in
    let q : m / 3 ≡ n = cc p.1 in
    (omega arith, omega arith, more)

-- an empty line has one field
pub cells_empty : (table : Table) (count : ℕ) → 1 < count → (cells_of table count []).read ≡ false
unfolding count_of
cells_empty table count h = ap (λ c. c.read) (cells_other table [] count (λ e. omega arith))

-- eight values, as a part of the values
pub eight_part : (k : ℕ) (v : List ℕ) → k + 8 ≤ length v → take (k + 8 - k) (drop k v) ≡ eight_from k v
unfolding eight_from
eight_part k v h =
    let n : k + 8 - k ≡ 8 = omega arith in
    let part = take 8 (drop k v) in
    let long : length part ≡ 8 = length-take-le 8 (drop k v) (simp length-drop (omega arith)) in
    let all = listing_of {A = ℕ} (λ i. get_or v (k + i) 0) part 0
    (λ i b. sym (get_or-take 8 (drop k v) i 0 (omega arith) ∙ get_or-drop k v i 0)) in
    rw n (sym (rw long at all))

-- a text off its layout has refusal 16
pub layout_off : (n : ℕ) (s : List ℕ) → ((layout_of n s).refusal ≡ 0 → ⊥) → (layout_of n s).refusal ≡ 16
unfolding layout_of cells_layout row_layout
layout_off n s h =
    let c = cells_of Register (5 + n) (bare_line s) in
    either (points_fit n)
    (λ yes. either c.read
    (λ on. either (eqb c.blanks 0)
    (λ none. absurd (h (rw (yes, on, none))))
    (λ some. either (eqb c.blanks n)
    (λ all. absurd (h (rw (yes, on, some, all))))
    (λ few. rw (yes, on, some, few))))
    (λ off. rw (yes, off)))
    (λ no. rw no)

-- a row that is refused leaves the levels that were lent
pub row_unread : {n : ℕ} {line old : List ℕ} (why : Refusal)
    → number_of why ≡ row_refusal n (layout_of n line) (length old) → RowRead n line old (Err why) old
row_unread {n} {line} {old} why e =
    let bad = ne_eqb (number_of why) 0 (λ z. omega (arith, numbered why)) in
    record { number = e; values = rw (← e, bad); levels = rw (← e, bad) }

pub row_off : {n : ℕ} {line old : List ℕ} (why : Refusal) → layout_told (Err why) ≡ layout_of n line
    → RowRead n line old (Err why) old
unfolding row_refusal
row_off {n} {line} {old} why e =
    let some = ne_eqb (number_of why) 0 (λ z. omega (arith, numbered why)) in
    let sixteen : number_of why ≡ 16 = ap (λ l. l.refusal) e ∙ layout_off n line
    (λ z. omega (arith, numbered why, ap (λ l. l.refusal) e)) in
    row_unread why (rw (← e, some) sixteen)
