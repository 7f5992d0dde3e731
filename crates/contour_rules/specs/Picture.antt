-- What a contour needs to know of a network: its size, which points are in, and how its saddles are joined: RULES,
-- "Network and contours". Assumes nothing.
use Rattle.std.specs.Prelude.{Bool, List, ℕ, ◌+◌, ◌*◌, leb}
use Rattle.network.specs.Edges.{level_at}
use Rattle.network.specs.Crossed.{inside_of}

-- nx columns and ny rows of points, whether the point of a row and column is in, and whether a saddle cuts off its two
-- out corners, in the square of a row and column: those of its south-west corner
pub record Picture : Type 0 where
  pub nx : ℕ
  pub ny : ℕ
  pub inside : ℕ → ℕ → Bool
  pub cut : ℕ → ℕ → Bool

-- the sum of the four corners of a square
abbrev pub corner_sum : (levels : List ℕ) (nx row col : ℕ) → ℕ
corner_sum levels nx row col =
    level_at levels nx row col + level_at levels nx row (col + 1)
    + (level_at levels nx (row + 1) (col + 1) + level_at levels nx (row + 1) col)

-- a saddle cuts off its two out corners where the four corners add up to at least 4v, otherwise its two in corners
abbrev pub cut_of : (levels : List ℕ) (nx v row col : ℕ) → Bool
cut_of levels nx v row col = leb (4 * v) (corner_sum levels nx row col)

-- the picture of a network at contour level v
abbrev pub picture : (levels : List ℕ) (nx ny v : ℕ) → Picture
picture levels nx ny v = record { nx = nx; ny = ny; inside = inside_of levels nx v; cut = cut_of levels nx v }
