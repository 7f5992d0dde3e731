-- A network text that is read: what it is refused with, and what it leaves in the room that is lent.
-- RULES, "Refusal numbers": 17, 12, 13, 14. Assumes nothing.
use Rattle.std.specs.Prelude.{ℕ, ◌&&◌, List, [], ◌∷◌, length, ◌==◌, nat_le}
use Rattle.text.specs.Line.{lines_of}
use Rattle.refusal.specs.Refuse.{refuse}
use Rattle.network.specs.Limits.{max_network_level}
use Rattle.room.specs.Room.{leaves}
use Rattle.network.specs.Refusals.{checked}
use Rattle.network.specs.declared.Frame.{Frame}
use Rattle.grid.specs.Row.{all, row_given, levels_of}
use Rattle.grid.specs.File.{frame_of, no_data_of, rows_of, fault_line, rows_fit}

-- the header as numbers: columns, rows, spacing, west, south
abbrev pub numbers_of : Frame → List ℕ
numbers_of f = f.columns ∷ f.rows ∷ f.spacing ∷ f.west ∷ f.south ∷ []

abbrev pub header_size : ℕ
header_size = 5

-- the network of a text: its frame and its levels from the south row, west to east
abbrev pub text_frame : List ℕ → Frame
text_frame text = frame_of (lines_of text)

abbrev pub text_levels : List ℕ → List ℕ
text_levels text = levels_of (rows_of (lines_of text))

-- what lines are refused with, or 0, where room is lent for so many header numbers and levels
unfoldable pub lines_refusal : List (List ℕ) → ℕ → ℕ → ℕ
lines_refusal lines headers room =
    refuse 17 (fault_line lines == 0)
    (refuse 12 (rows_fit (frame_of lines) (rows_of lines))
    (checked max_network_level (levels_of (rows_of lines)) (frame_of lines)
    (refuse 13 (all (row_given (no_data_of lines)) (rows_of lines))
    (refuse 14 (nat_le header_size headers && nat_le (length (levels_of (rows_of lines))) room) 0))))

abbrev pub read_refusal : List ℕ → ℕ → ℕ → ℕ
read_refusal text headers room = lines_refusal (lines_of text) headers room

-- what the lent room holds after
abbrev pub header_after : (text headers levels : List ℕ) → List ℕ
header_after text headers levels =
    leaves (read_refusal text (length headers) (length levels)) (numbers_of (text_frame text)) headers

abbrev pub levels_after : (text headers levels : List ℕ) → List ℕ
levels_after text headers levels =
    leaves (read_refusal text (length headers) (length levels)) (text_levels text) levels
