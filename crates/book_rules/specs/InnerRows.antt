-- Inner steps: no promise uses them. What the functions below the calls ask of the columns they are lent: facts that a
-- call has found before it changes a row. Assumes nothing.
use Rattle.std.specs.Prelude.{ℕ, ◌-◌, ◌≤◌, ◌≡◌, true, List, length, drop, replicate}
use Rattle.book_rules.specs.Columns.{Book, sound, rising, index_of, place_of}

-- the column holds only zeros from an index on
pub record ZeroFrom (from : ℕ) (xs : List ℕ) : Type 0 where
  pub inside : from ≤ length xs
  pub zeros : drop from xs ≡ replicate (length xs - from) 0

-- `at` is the place of the identity x
pub record Placed (ids : List ℕ) (at x : ℕ) : Type 0 where
  pub rising= : rising ids ≡ true
  pub place : at ≡ place_of x ids

-- the book is sound, `rows` of its rows stand, and `at` is one of them or the first after them
pub record RowsTo (p : ℕ) (b : Book) (at rows : ℕ) : Type 0 where
  pub sound= : sound p b ≡ true
  pub rows= : rows ≡ index_of 0 b.identities
  pub at≤ : at ≤ rows
