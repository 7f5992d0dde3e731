-- What the call for contours leaves in lent memory holds every crossing one time: RULES, "Network and contours".
-- Assumes nothing.
use Rattle.std.specs.Prelude.{◌≡◌, List, ℕ, ◌+◌, ◌-◌, ◌*◌, ◌≤◌, length, get_or}
use Rattle.room.specs.Lent.{Lent, LentRoom}
use Rattle.network.specs.declared.Frame.{Frame}
use Rattle.network.specs.Ranges.{RightFrame, RightLevels, RightContour}
use Rattle.crossing_rules.specs.OneTime.{OneTime}

-- room for as many numbers as the network has edges
abbrev pub RoomForEach : Frame → List ℕ → Type 0
RoomForEach f room = f.rows * (f.columns - 1) + (f.rows - 1) * f.columns ≤ length room

-- the call answered r; its lists at entry and exit
module _ (levels : Lent) (f : Frame) (v : ℕ) (edges counts closed sizes : LentRoom) (r : ℕ) where
  -- the numbers in the buffers, of which the first two sizes say how many there are, hold every crossing one time
  abbrev pub Holds : Type 0
  Holds =
      OneTime levels.entry.now f.columns f.rows v edges.exit.now counts.exit.now
      closed.exit.now (get_or sizes.exit.now 0 0) (get_or sizes.exit.now 1 0)

  pub record EveryCrossing : Type 0 where
    -- every network and level in range is answered where there is room for a number an edge
    pub answers : RightFrame levels.entry.now f → RightLevels levels.entry.now → RightContour v
        → RoomForEach f edges.entry.now → RoomForEach f counts.entry.now
        → RoomForEach f closed.entry.now → 2 ≤ length sizes.entry.now → r ≡ 0
    -- and whatever is answered is of a network and a level in range, and holds every crossing one time
    pub in_range_rule : r ≡ 0 → RightFrame levels.entry.now f × (RightLevels levels.entry.now × RightContour v)
    pub one_time : r ≡ 0 → Holds
