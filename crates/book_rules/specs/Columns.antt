-- The columns of a book, when they are sound, and how each column changes: RULES, "Movements and the book".
-- Assumes nothing.
use Rattle.std.specs.Prelude.{ℕ, zero, suc, ◌+◌, ◌*◌, Bool, true, cond, ◌&&◌, ◌||◌, List, [], ◌∷◌, ◌++◌, length, take}
use Rattle.std.specs.Prelude.{drop, replicate, eqb, leb, ltb}
use Rattle.refusal.specs.Range.{all_within}
use Rattle.movement.specs.Limits.{max_rows, max_points, max_identity, max_count, max_level, group_count}
use Rattle.movement.specs.Rules.{zero_elsewhere}

-- five columns: one identity, group and mark a row, and for each point whether the row counts there and its level
pub record Book : Type 0 where
  pub identities : List ℕ
  pub groups : List ℕ
  pub marks : List ℕ
  pub counts : List ℕ
  pub levels : List ℕ

abbrev pub book_of : (identities groups marks counts levels : List ℕ) → Book
book_of ids gs ms cs ls = record { identities = ids; groups = gs; marks = ms; counts = cs; levels = ls }

-- the book of five columns that a call is lent, in their order: as the call begins (old), or at its return (new)
abbrev pub book_lent : (ids groups marks counts levels : List ℕ) → Book
book_lent ids gs ms cs ls = book_of ids gs ms cs ls

-- Soundness

-- points and rows in range, and columns that fit, by their lengths
unfoldable pub shape_fits : (points rows groups marks counts levels : ℕ) → Bool
shape_fits points rows groups marks counts levels =
    (leb 1 points && leb points max_points)
    && ((leb 1 rows && leb rows max_rows)
    && ((eqb groups rows && eqb marks rows) && (eqb counts (rows * points) && eqb levels (rows * points))))

unfoldable pub shaped : ℕ → Book → Bool
shaped p b =
    shape_fits p (length b.identities) (length b.groups) (length b.marks) (length b.counts)
    (length b.levels)

-- y may stand right after x: it is unused, or x is used and lower
unfoldable pub follows : ℕ → ℕ → Bool
follows x y = eqb y 0 || (ltb 0 x && ltb x y)

unfoldable pub followed : ℕ → List ℕ → Bool
followed x [] = true
followed x (y ∷ ys) = follows x y

-- identities rise with no gap, and unused rows come last
unfoldable pub rising : List ℕ → Bool
rising [] = true
rising (x ∷ xs) = followed x xs && rising xs

-- an unused row is zero throughout; a used one has its values in range
unfoldable pub head_sound : (identity group mark : ℕ) → Bool
head_sound x g m = cond (eqb x 0) (eqb g 0 && eqb m 0) (leb x max_identity && (ltb g group_count && leb m 1))

-- the highest level that a row may hold: 0 where it is not marked as computed
unfoldable pub top_level : ℕ → ℕ
top_level m = cond (eqb m 0) 0 max_level

-- the highest number that stands for where a row counts: 0 where it is unused
unfoldable pub top_count : ℕ → ℕ
top_count x = cond (eqb x 0) 0 max_count

-- a row's values point by point: where it counts, and its levels, zero where it doesn't count
unfoldable pub cells_sound : (identity mark : ℕ) (counts levels : List ℕ) → Bool
cells_sound x m cs ls = all_within (top_count x) cs && (all_within (top_level m) ls && zero_elsewhere cs ls)

unfoldable pub row_sound : (identity group mark : ℕ) (counts levels : List ℕ) → Bool
row_sound x g m cs ls = head_sound x g m && cells_sound x m cs ls

unfoldable pub rows_sound : (points : ℕ) (identities groups marks counts levels : List ℕ) → Bool
rows_sound p [] gs ms cs ls = true
rows_sound p (x ∷ xs) [] ms cs ls = true
rows_sound p (x ∷ xs) (g ∷ gs) [] cs ls = true
rows_sound p (x ∷ xs) (g ∷ gs) (m ∷ ms) cs ls =
    row_sound x g m (take p cs) (take p ls) && rows_sound p xs gs ms (drop p cs) (drop p ls)

unfoldable pub sound : ℕ → Book → Bool
sound p b =
    shaped p b
    && (rising b.identities
    && rows_sound p b.identities b.groups b.marks b.counts b.levels)

-- Places

-- the index of the first value that passes a test, or the length where none does
unfoldable pub first_at : (ℕ → Bool) → List ℕ → ℕ
first_at f [] = zero
first_at f (y ∷ ys) = cond (f y) zero (suc (first_at f ys))

-- the row of identity x; 0 is the identity of an unused row
unfoldable pub index_of : ℕ → List ℕ → ℕ
index_of x xs = first_at (λ y. eqb y x) xs

unfoldable pub stands : ℕ → List ℕ → Bool
stands x xs = ltb (index_of x xs) (length xs)

-- the place of a new identity x: the first row that is unused or not lower
unfoldable pub place_of : ℕ → List ℕ → ℕ
place_of x xs = first_at (λ y. eqb y 0 || leb x y) xs

-- the p values that row k has in a column of one a point
unfoldable pub cells_at : (points row : ℕ) → List ℕ → List ℕ
cells_at p k xs = take p (drop (k * p) xs)

-- Changes of one column, at an index of it; values that take the place of as many others are `put` there (crate room)

-- the values vs go in, and what stands after moves up; the column keeps its length
unfoldable pub opened : ℕ → List ℕ → List ℕ → List ℕ
opened at vs xs = take (length xs) (take at xs ++ (vs ++ drop at xs))

-- w values go out, and what stands after moves down; zeros fill the end
unfoldable pub closed : ℕ → ℕ → List ℕ → List ℕ
closed at w xs = take at xs ++ (drop (at + w) xs ++ replicate w 0)
