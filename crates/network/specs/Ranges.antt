-- The ranges of a network and of a contour level, and the order of refusals, in the rules' own numbers.
-- Assumes nothing.
use Rattle.std.specs.Prelude.{◌≡◌, ℕ, ◌*◌, ◌<◌, ◌≤◌, ◌↔◌, List, length, slice_index}
use Rattle.network.specs.declared.Frame.{Frame}

-- 12 otherwise: 2 to 256 points a side, spacing 1 to 500 m, south-west point 0 to 900,000 m each way,
-- and a value for each point
pub record RightFrame (levels : List ℕ) (f : Frame) : Type 0 where
  pub wide : (2 ≤ f.columns) × (f.columns ≤ 256)
  pub tall : (2 ≤ f.rows) × (f.rows ≤ 256)
  pub spaced : (1 ≤ f.spacing) × (f.spacing ≤ 500)
  pub west : f.west ≤ 900000
  pub south : f.south ≤ 900000
  pub values : length levels ≡ f.rows * f.columns

-- 13 otherwise: no level over 150,000 thousandths
abbrev pub RightLevels : List ℕ → Type 0
RightLevels levels = (i : ℕ) → i < length levels → slice_index levels i ≤ 150000

-- 15 otherwise: a contour level of 1 to 150,000 thousandths
abbrev pub RightContour : ℕ → Type 0
RightContour v = (1 ≤ v) × (v ≤ 150000)

-- a network is refused in the order 12, 13, each exactly when its reason holds and no earlier one does
pub record NetworkRefused (levels : List ℕ) (f : Frame) (answer : ℕ) : Type 0 where
  pub twelve : (answer ≡ 12) ↔ (RightFrame levels f → ⊥)
  pub thirteen : (answer ≡ 13) ↔ (RightFrame levels f × (RightLevels levels → ⊥))
  pub none : (answer ≡ 0) ↔ (RightFrame levels f × RightLevels levels)

-- with a contour level: 12, 13, 15; then `rest` is answered, which is 0 or 14
pub record ContourRefused (levels : List ℕ) (f : Frame) (v rest answer : ℕ) : Type 0 where
  pub twelve : (answer ≡ 12) ↔ (RightFrame levels f → ⊥)
  pub thirteen : (answer ≡ 13) ↔ (RightFrame levels f × (RightLevels levels → ⊥))
  pub fifteen : (answer ≡ 15) ↔ (RightFrame levels f × (RightLevels levels × (RightContour v → ⊥)))
  pub others : (answer ≡ rest) ↔ (RightFrame levels f × (RightLevels levels × RightContour v))

-- the same where room is lent: 14 last, exactly where the room is not enough
pub record RoomRefused (levels : List ℕ) (f : Frame) (v : ℕ) (Enough : Type 0) (answer : ℕ) : Type 0 where
  pub enough : Enough → ContourRefused levels f v 0 answer
  pub short : (Enough → ⊥) → ContourRefused levels f v 14 answer
