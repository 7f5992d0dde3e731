-- The call that prints the contours of a network, and what it leaves in the room lent to it: RULES, "Files and the
-- report program". Assumes nothing.
use Rattle.std.specs.Prelude.{ℕ, ◌&&◌, List, [], ◌∷◌, length}
use Rattle.room.specs.Lent.{LentRoom}
use Rattle.room.specs.Room.{fits_in, then_room, WritesTwo}
use Rattle.network.specs.declared.Frame.{Frame}
use Rattle.network.specs.Refusals.{contour_refusal}
use Rattle.contour_rules.specs.Picture.{picture}
use Rattle.contour_rules.specs.Contours.{contours_of}
use Rattle.wkt.specs.Text.{contours_text}

-- the text of the contours of a network at level v
abbrev pub network_text : List ℕ → Frame → ℕ → List ℕ
network_text levels f v = contours_text levels f v (contours_of (picture levels f.columns f.rows v))

-- 12, 13, 15, and then 14 where the text or its size in bytes has no room
abbrev pub print_refusal : (levels : List ℕ) (f : Frame) (v : ℕ) (room size : List ℕ) → ℕ
print_refusal levels f v room size =
    then_room (contour_refusal levels f v)
    (fits_in (network_text levels f v) room && fits_in (length (network_text levels f v) ∷ []) size)

-- a call that prints a text and its size into lent room, and has the refusal `why` without it
abbrev pub Prints : (why : ℕ) (text : List ℕ) (room size : LentRoom) (answer : ℕ) → Type 0
Prints why text room size answer =
    WritesTwo why text (length text ∷ []) room.entry.now size.entry.now answer room.exit.now
    size.exit.now
