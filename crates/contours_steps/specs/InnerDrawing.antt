-- Inner steps: no promise uses them. A network that was read, and one that is drawn, behind the checks.
-- Assumes nothing.
use Rattle.std.specs.Prelude.{◌≡◌, ℕ, ◌<◌, ◌≤◌, List, length, take, slice_index}
use Rattle.network.specs.declared.Frame.{Frame}
use Rattle.network.specs.Edges.{Checked}
use Rattle.network.specs.Limits.{least_contour, max_contour}
use Rattle.grid.specs.Read.{numbers_of, header_size, text_frame, text_levels}
use Rattle.contours_steps.specs.Words.{max_contour_levels}

-- the network of a text as it is stored, its five numbers and then its levels in longer room
pub record Stored (text header levels : List ℕ) : Type 0 where
  pub five : length header ≡ header_size
  pub numbers : header ≡ numbers_of (text_frame text)
  pub fits : length (text_levels text) ≤ length levels
  pub front : take (length (text_levels text)) levels ≡ text_levels text

-- as the functions behind the checks know it
pub record Drawable (levels : List ℕ) (f : Frame) (asked : List ℕ) : Type 0 where
  pub checked : Checked levels f
  pub few : length asked ≤ max_contour_levels
  pub least : (i : ℕ) → i < length asked → least_contour ≤ slice_index asked i
  pub most : (i : ℕ) → i < length asked → slice_index asked i ≤ max_contour
