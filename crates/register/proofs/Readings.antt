-- Laws of a line's cells as they are read, one after the other. Assumes nothing.
use Rattle.std.specs.Prelude.{ℕ, ◌+◌, ◌-◌, ◌≤◌}
use mathlib.Core.{Path.◌≡◌, List.List, List.◌++◌, Bool.Bool, Bool.true, Bool.false, Bool.cond, Bool.and-false}
use native.Mathlib.Omega.{arith}
use borrow.Author.Tests.{leb-true, leb-false, eqb-true, ne_eqb}
use lib.{ListN.replicate, Dec.leb, Dec.eqb}
use Rattle.text.specs.{Field.count_of, Field.field_of, Index.every, Index.many, Index.listing}
use Rattle.text.proofs.{Digits.either, Indices.many_more}
use Rattle.register.specs.Cell.{cells_of, got_cells, off_cells, got_at, value_at, blank_at}
use Rattle.register.specs.InnerCell.{blank_cell}
use Rattle.register.specs.declared.cell.Table.{Table}

pub mark_most : (b : Bool) → cond b 1 0 ≤ 1
mark_most true = omega arith
mark_most false = omega arith

-- one column more counts a blank level or does not
pub blanks_next : (s : List ℕ) (k : ℕ)
    → many (blank_at s) (k - 5) + cond (blank_cell k (field_of 44 k s)) 1 0 ≡ many (blank_at s) (k + 1 - 5)
blanks_next s k =
    either (leb 5 k)
    (λ yes. let h = leb-true 5 k yes in
    let a : k + 1 - 5 ≡ k - 5 + 1 = omega arith in
    let b : 5 + (k - 5) ≡ k = omega arith in
    rw (yes, a, many_more (blank_at s) (k - 5), b))
    (λ no. let h = leb-false 5 k no in
    let a : k + 1 - 5 ≡ k - 5 = omega arith in
    rw (no, a) (omega arith))

module _ (table : Table) (s : List ℕ) (count : ℕ) where
  -- a line of another number of fields, or with a field off its layout
  pub cells_other : (count_of 44 s + 1 ≡ count → ⊥) → cells_of table count s ≡ off_cells
  unfolding cells_of
  cells_other h = rw (ne_eqb (count_of 44 s + 1) count h)

  pub cells_off : every (got_at table s) count ≡ false → cells_of table count s ≡ off_cells
  unfolding cells_of
  cells_off e = rw (e, and-false (eqb (count_of 44 s + 1) count))

  -- a line of k fields, all on their layout
  pub cells_counted : (k : ℕ) → count_of 44 s + 1 ≡ k → every (got_at table s) k ≡ true
      → cells_of table count s ≡ cond (eqb k count)
      (got_cells (many (blank_at s) (k - 5)) (listing (value_at table s) k ++ replicate (13 - k) 0)) off_cells
  unfolding cells_of
  cells_counted k n e =
      either (eqb k count)
      (λ yes. rw (n, yes, ← eqb-true k count yes, e))
      (λ no. rw (n, no))
