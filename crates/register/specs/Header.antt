-- The header lines of a register and of limits.csv, for 1 to 8 points. Each is a fixed text, cut off after its last
-- point. Assumes nothing.
use Rattle.std.specs.Prelude.{ℕ, ◌-◌, ◌/◌, ◌%◌, cond, ◌&&◌, List, length, take, ◌==◌, nat_le, nat_lt}
use Rattle.movement.specs.Limits.{max_points}
use Rattle.text.specs.Same.{same_text}
use Rattle.text.specs.Spelled.{bytes}
use Rattle.std.specs.Prelude.{Option, Some, None}

abbrev pub register_header : List ℕ
register_header = bytes "id,type,mtow,kind,time,l1,l2,l3,l4,l5,l6,l7,l8"

abbrev pub limits_header : List ℕ
limits_header = bytes "days,p1,p2,p3,p4,p5,p6,p7,p8"

-- the bytes before their points
abbrev pub register_lead : ℕ
register_lead = length (bytes "id,type,mtow,kind,time")

abbrev pub limits_lead : ℕ
limits_lead = length (bytes "days")

-- the points of a line that is `full` up to one of its points; `lead` bytes stand before the points, three for each
unfoldable pub header_of : (full : List ℕ) (lead : ℕ) (s : List ℕ) → Option ℕ
header_of full lead s =
    cond (nat_lt lead (length s) && nat_le (length s) (length full) && (length s - lead) % 3 == 0
    && nat_le ((length s - lead) / 3) max_points && same_text s (take (length s) full))
    (Some ((length s - lead) / 3))
    None
