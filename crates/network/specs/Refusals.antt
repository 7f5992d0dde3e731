-- Which networks and contour levels are refused, and by which number: RULES, "Refusal numbers", 12, 13 and 15.
-- Assumes nothing.
use Rattle.std.specs.Prelude.{ℕ, ◌*◌, Bool, ◌&&◌, List, length, ◌==◌, nat_le}
use Rattle.refusal.specs.Range.{all_within}
use Rattle.refusal.specs.Refuse.{refuse}
use Rattle.network.specs.declared.Frame.{Frame}
use Rattle.network.specs.Limits.{least_side, max_side, least_spacing, max_spacing, max_origin}
use Rattle.network.specs.Limits.{max_network_level, least_contour, max_contour}

-- from `low` to `high`
abbrev pub between : ℕ → ℕ → ℕ → Bool
between low x high = nat_le low x && nat_le x high

-- 2 to 256 points a side
abbrev pub sided : Frame → Bool
sided f = between least_side f.columns max_side && between least_side f.rows max_side

-- spacing 1 to 500 m, and a south-west point 0 to 900,000 m each way
abbrev pub placed : Frame → Bool
placed f = between least_spacing f.spacing max_spacing && (nat_le f.west max_origin && nat_le f.south max_origin)

-- as many values as points
abbrev pub filled : List ℕ → Frame → Bool
filled levels f = length levels == f.rows * f.columns

-- 12 for size, spacing, origin or count of values, then 13 for a level over `max`, then what the call looks at next
abbrev pub checked : (max : ℕ) (levels : List ℕ) (f : Frame) (rest : ℕ) → ℕ
checked max levels f rest =
    refuse 12 (sided f && placed f && filled levels f) (refuse 13 (all_within max levels) rest)

-- the refusal of a call that takes a network, or 0
abbrev pub network_refusal : List ℕ → Frame → ℕ
network_refusal levels f = checked max_network_level levels f 0

-- the same where it takes a contour level too: 15 after these, then what the call looks at next
abbrev pub contour_checked : (max : ℕ) (levels : List ℕ) (f : Frame) (v rest : ℕ) → ℕ
contour_checked max levels f v rest = checked max levels f (refuse 15 (between least_contour v max_contour) rest)

abbrev pub contour_refusal : List ℕ → Frame → ℕ → ℕ
contour_refusal levels f v = contour_checked max_network_level levels f v 0
