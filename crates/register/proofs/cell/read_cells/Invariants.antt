-- `register::cell::read_cells` meets its contract. The invariant: every field passed is on its layout, its value and
-- the blank levels are noted, and here the next one starts, or the line ended. Assumes nothing.
use Rattle.std.specs.Prelude.{◌≡◌, ◌+◌, ◌-◌, ◌<◌, ◌++◌, true, replicate}
use Rattle.text.specs.{Field.count_of, Index.every, Index.many, Index.listing}
use Rattle.text.proofs.Fields.{FieldAt}
use Rattle.register.specs.Cell.{got_at, value_at, blank_at}
use Rattle.register.proofs.cell.read_cells.Given as goal

abbrev pub invariant-loop-k : goal.invariant-loop-k
invariant-loop-k l = record {
  read : every (got_at l.table l.s) l.k ≡ true;
  next : l.k < l.count → FieldAt 44 l.s l.at l.k;
  ended : l.k ≡ l.count → count_of 44 l.s + 1 ≡ l.count;
  values : l.values ≡ listing (value_at l.table l.s) l.k ++ replicate (13 - l.k) 0;
  blanks : l.blanks ≡ many (blank_at l.s) (l.k - 5);
}
