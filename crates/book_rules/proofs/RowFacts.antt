-- What a sound book says of one row and of its value at one point: what a loop over the rows, as that of a load, needs
-- at each index. Assumes nothing.
use mathlib.Core.{Path.◌≡◌, Bool.Bool, Bool.true, Bool.false, Bool.cond, List.List, List.[], List.◌∷◌}
use Prim.Native.Nat.{ℕ, zero, suc, ◌+◌, ◌*◌, ◌≤◌, ◌<◌}
use native.Mathlib.{Nat.le_of_suc-le-suc, Nat.not-suc-le-zero, Omega.arith}
use lib.{ListN.length, ListN.take, ListN.drop, ListN.get_or, Dec.eqb}
use Rattle.refusal.specs.Range.{all_within}
use Rattle.refusal.proofs.{Laws.and_left, Laws.and_right, Ranges.within_at}
use Rattle.movement.specs.Limits.{max_identity, max_count, max_level, group_count}
use Rattle.book_rules.specs.Columns.{Book, sound, top_count, top_level, row_sound, rows_sound, cells_at}
use Rattle.book_rules.proofs.Shapes.{RowParts, row_parts, sound_fits, sound_rows, head_bounds}
use Rattle.book_rules.proofs.Cells.{cells_first, cells_next, cell_at}

pub row_at : (p : ℕ) (xs gs ms cs ls : List ℕ) (i : ℕ) → rows_sound p xs gs ms cs ls ≡ true
    → length gs ≡ length xs
    → length ms ≡ length xs → i < length xs
    → row_sound (get_or xs i 0) (get_or gs i 0) (get_or ms i 0) (cells_at p i cs) (cells_at p i ls) ≡ true
unfolding rows_sound
row_at p [] gs ms cs ls i e hg hm h = absurd (not-suc-le-zero h)
row_at p (x ∷ xs) [] ms cs ls i e hg hm h = absurd (omega arith)
row_at p (x ∷ xs) (g ∷ gs) [] cs ls i e hg hm h = absurd (omega arith)
row_at p (x ∷ xs) (g ∷ gs) (m ∷ ms) cs ls zero e hg hm h =
    rw (cells_first p cs, cells_first p ls) (and_left (row_sound x g m (take p cs) (take p ls)) _ e)
row_at p (x ∷ xs) (g ∷ gs) (m ∷ ms) cs ls (suc i) e hg hm h =
    rw (← (cells_next p i cs), ← (cells_next p i ls))
    (row_at p xs gs ms (drop p cs) (drop p ls) i (and_right (row_sound x g m (take p cs) (take p ls)) _ e)
    (omega arith) (omega arith) (le_of_suc-le-suc h))

-- the tests that row i of a sound book passed
pub parts_at : (p : ℕ) (b : Book) (i : ℕ) → sound p b ≡ true → i < length b.identities
    → RowParts (get_or b.identities i 0) (get_or b.groups i 0) (get_or b.marks i 0) (cells_at p i b.counts)
    (cells_at p i b.levels)
parts_at p b i e h =
    let f = sound_fits p b e in
    row_parts _ _ _ _ _
    (row_at p b.identities b.groups b.marks b.counts b.levels i (sound_rows p b e) f.groups=
    f.marks= h)

-- a value of the row at a point is within what its column may hold
cell_within : (p i : ℕ) (xs : List ℕ) (t : Bool) (top : ℕ) → all_within (cond t 0 top) (cells_at p i xs) ≡ true
    → (j : ℕ) → j < p → get_or xs (i * p + j) 0 ≤ top
cell_within p i xs true top e j h = omega (arith, within_at 0 (cells_at p i xs) j e, cell_at p i xs j h)
cell_within p i xs false top e j h = omega (arith, within_at top (cells_at p i xs) j e, cell_at p i xs j h)

pub record RowFacts (p : ℕ) (b : Book) (i : ℕ) : Type 0 where
  pub identity≤ : get_or b.identities i 0 ≤ max_identity
  pub group< : get_or b.groups i 0 < group_count
  pub mark≤ : get_or b.marks i 0 ≤ 1
  pub count≤ : (j : ℕ) → j < p → get_or b.counts (i * p + j) 0 ≤ max_count
  pub level≤ : (j : ℕ) → j < p → get_or b.levels (i * p + j) 0 ≤ max_level

pub row_facts : (p : ℕ) (b : Book) (i : ℕ) → sound p b ≡ true → i < length b.identities → RowFacts p b i
unfolding top_count top_level
row_facts p b i e h =
    let r = parts_at p b i e h in
    let head = head_bounds _ _ _ r.head in
    record {
      identity≤ = head.0;
      group< = head.1;
      mark≤ = head.2;
      count≤ = cell_within p i b.counts (eqb (get_or b.identities i 0) 0) max_count r.counts;
      level≤ = cell_within p i b.levels (eqb (get_or b.marks i 0) 0) max_level r.levels;
    }
