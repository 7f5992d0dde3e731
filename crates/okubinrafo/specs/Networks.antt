-- A network's frame from the numbers of a call. Assumes nothing.
use Rattle.std.specs.Prelude.{ℕ}
use Rattle.network.specs.declared.Frame.{Frame}

abbrev pub frame_of : (columns rows spacing west south : ℕ) → Frame
frame_of columns rows spacing west south =
    record { columns = columns; rows = rows; spacing = spacing; west = west; south = south }
