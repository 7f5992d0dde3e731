-- A sound book in the rules' words, by look-up at each row and with its numbers spelled out. Assumes nothing.
use Rattle.std.specs.Prelude.{ℕ, ◌+◌, ◌*◌, ◌≤◌, ◌<◌, ◌≡◌, true, ◌⊎◌, length, get_or}
use Rattle.book_rules.specs.Columns.{Book, sound}
use Rattle.book_rules.specs.Calls.{Call, refusal}

-- row i, with a yes or no and a level for each of p points
pub record SoundRow (p : ℕ) (b : Book) (i : ℕ) : Type 0 where
  -- every value in its range
  pub identity : get_or b.identities i 0 ≤ 99999
  pub group : get_or b.groups i 0 < 18
  pub mark : get_or b.marks i 0 ≤ 1
  pub count : (j : ℕ) → j < p → get_or b.counts (i * p + j) 0 ≤ 1
  pub level : (j : ℕ) → j < p → get_or b.levels (i * p + j) 0 ≤ 12000
  -- a row not computed has all levels zero
  pub bare : get_or b.marks i 0 ≡ 0 → (j : ℕ) → j < p → get_or b.levels (i * p + j) 0 ≡ 0
  -- a level where the row doesn't count is zero
  pub silent : (j : ℕ) → j < p → get_or b.counts (i * p + j) 0 ≡ 0 → get_or b.levels (i * p + j) 0 ≡ 0
  -- an unused row is zero throughout
  pub unused : get_or b.identities i 0 ≡ 0 → (get_or b.groups i 0 ≡ 0) × (get_or b.marks i 0 ≡ 0)
  pub nowhere : get_or b.identities i 0 ≡ 0 → (j : ℕ) → j < p → get_or b.counts (i * p + j) 0 ≡ 0

-- of two rows the later, of identity z, is unused, or the earlier, of identity x, is used and lower
abbrev pub Later : (x z : ℕ) → Type 0
Later x z = (z ≡ 0) ⊎ ((1 ≤ x) × (x < z))

pub record SoundBook (p : ℕ) (b : Book) : Type 0 where
  -- 1 to 8 points and 1 to 50,000 rows
  pub points : (1 ≤ p) × (p ≤ 8)
  pub rows : (1 ≤ length b.identities) × (length b.identities ≤ 50000)
  -- columns that fit: as many groups and marks as identities, and yes and no and levels equal to rows times points
  pub groups : length b.groups ≡ length b.identities
  pub marks : length b.marks ≡ length b.identities
  pub counts : length b.counts ≡ length b.identities * p
  pub levels : length b.levels ≡ length b.identities * p
  -- rows stand in rising identity with no gap, and unused rows come last
  pub rising : (i j : ℕ) → i < j → j < length b.identities
      → Later (get_or b.identities i 0) (get_or b.identities j 0)
  pub row : (i : ℕ) → i < length b.identities → SoundRow p b i

-- a book passes the test exactly if it is sound
pub record SoundExactly (p : ℕ) (b : Book) : Type 0 where
  pub passes : SoundBook p b → sound p b ≡ true
  pub only : sound p b ≡ true → SoundBook p b

-- 9 for a size outside its range, whatever the columns hold and whichever the call
pub record SizesRefused (p : ℕ) (b : Book) (c : Call) : Type 0 where
  pub no_points : p ≡ 0 → refusal p b c ≡ 9
  pub many_points : 8 < p → refusal p b c ≡ 9
  pub no_rows : length b.identities ≡ 0 → refusal p b c ≡ 9
  pub many_rows : 50000 < length b.identities → refusal p b c ≡ 9
