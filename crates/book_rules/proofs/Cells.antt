-- The values that a row has in a column of p a row: one law for where the rows count and for their levels. Assumes
-- nothing.
use mathlib.Core.Path.{◌≡◌, refl, ◌∙◌}
use mathlib.Core.List.{List}
use Prim.Native.Nat.{ℕ, suc, ◌+◌, ◌-◌, ◌*◌, ◌<◌}
use native.Mathlib.{Nat.zero-mul, Nat.suc-mul, Omega.arith}
use lib.ListN.{length, take, drop, get_or, length-drop}
use lib.Seq.{get_or-take, get_or-drop, drop-drop, length-take-le}
use Rattle.book_rules.specs.Columns.{cells_at}
use Rattle.book_rules.proofs.Scans.{room}

pub cells_first : (p : ℕ) (xs : List ℕ) → cells_at p 0 xs ≡ take p xs
unfolding cells_at
cells_first p xs = rw (zero-mul p) refl

-- row k of the rows after the first
pub cells_next : (p k : ℕ) (xs : List ℕ) → cells_at p k (drop p xs) ≡ cells_at p (suc k) xs
unfolding cells_at
cells_next p k xs =
    let q : suc k * p ≡ p + k * p = omega (arith, suc-mul k p) in
    rw (drop-drop (k * p) p xs, q) refl

-- the part of the column that a loop lends of row i
pub cells_part : (p i at : ℕ) (xs : List ℕ) → at ≡ i * p → take (at + p - at) (drop at xs) ≡ cells_at p i xs
unfolding cells_at
cells_part p i at xs e = let q : at + p - at ≡ p = omega arith in rw (q, e) refl

-- a value of the row is one of the column
pub cell_at : (p i : ℕ) (xs : List ℕ) (j : ℕ) → j < p → get_or (cells_at p i xs) j 0 ≡ get_or xs (i * p + j) 0
unfolding cells_at
cell_at p i xs j h = get_or-take p (drop (i * p) xs) j 0 h ∙ get_or-drop (i * p) xs j 0

-- a row has p of them
pub cells_length : (p i rows : ℕ) (xs : List ℕ) → i < rows → length xs ≡ rows * p → length (cells_at p i xs) ≡ p
unfolding cells_at
cells_length p i rows xs h e =
    length-take-le p (drop (i * p) xs)
    (omega (arith, length-drop (i * p) xs, room p i (i * p) rows (length xs) refl h e))
