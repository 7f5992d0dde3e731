-- A network that is written: its lines, each with its CRLF, without a NODATA_value line, the rows from north to south;
-- what it is refused with (12, 13, 14), and what it leaves in the room that is lent. Assumes nothing.
use Rattle.std.specs.Prelude.{ℕ, zero, suc, ◌*◌, ◌&&◌, List, [], ◌∷◌, ◌++◌, map, length, take, drop, nat_le}
use Rattle.text.specs.Number.{show_whole, show_thousandths}
use Rattle.text.specs.Field.{joined_by}
use Rattle.text.specs.Spelled.{byte, crlf}
use Rattle.refusal.specs.Refuse.{refuse}
use Rattle.network.specs.Limits.{max_network_level}
use Rattle.room.specs.Room.{leaves}
use Rattle.network.specs.Refusals.{checked}
use Rattle.network.specs.declared.Frame.{Frame}
use Rattle.grid.specs.File.{ncols, nrows, xllcenter, yllcenter, cellsize}

-- a key, its space and a whole number
abbrev pub key_line : List ℕ → ℕ → List ℕ
key_line key n = key ++ show_whole n

abbrev pub head_lines : Frame → List (List ℕ)
head_lines f =
    key_line ncols f.columns
    ∷ key_line nrows f.rows
    ∷ key_line xllcenter f.west
    ∷ key_line yllcenter f.south
    ∷ key_line cellsize f.spacing
    ∷ []

-- the levels of a row, parted by one space
unfoldable pub row_line : List ℕ → List ℕ
row_line levels = joined_by (byte " ") (map show_thousandths levels)

-- the levels of row r, counted from the south
abbrev pub row_at : ℕ → List ℕ → ℕ → List ℕ
row_at columns levels r = take columns (drop (r * columns) levels)

-- the first `rows` rows from the south, the northernmost of them first
unfoldable pub row_lines : ℕ → List ℕ → ℕ → List (List ℕ)
row_lines columns levels zero = []
row_lines columns levels (suc rows) = row_line (row_at columns levels rows) ∷ row_lines columns levels rows

-- lines as a text, each with its CRLF
unfoldable pub text_of : List (List ℕ) → List ℕ
text_of [] = []
text_of (line ∷ lines) = line ++ (crlf ++ text_of lines)

abbrev pub network_lines : List ℕ → Frame → List (List ℕ)
network_lines levels f = head_lines f ++ row_lines f.columns levels f.rows

unfoldable pub show_network : List ℕ → Frame → List ℕ
show_network levels f = text_of (network_lines levels f)

-- what it is refused with, or 0, where room is lent for so many bytes and sizes
abbrev pub write_refusal : (levels : List ℕ) (f : Frame) (room sizes : ℕ) → ℕ
write_refusal levels f room sizes =
    checked max_network_level levels f (refuse 14 (nat_le (length (show_network levels f)) room && nat_le 1 sizes) 0)

-- what the lent room holds after: the text, and its size
abbrev pub text_after : (levels : List ℕ) (f : Frame) (text sizes : List ℕ) → List ℕ
text_after levels f text sizes =
    leaves (write_refusal levels f (length text) (length sizes)) (show_network levels f) text

abbrev pub size_after : (levels : List ℕ) (f : Frame) (text sizes : List ℕ) → List ℕ
size_after levels f text sizes =
    leaves (write_refusal levels f (length text) (length sizes)) (length (show_network levels f) ∷ []) sizes
