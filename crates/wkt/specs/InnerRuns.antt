-- Inner steps: no promise uses them. Printing in parts: what is printed by calls one after the other, each with a room
-- of its own, from a cursor to the end. Assumes nothing.
use Rattle.std.specs.Prelude.{ℕ, ◌<◌, List, [], ◌++◌, length, take}
use Rattle.network.specs.declared.Frame.{Frame}
use Rattle.wkt.specs.declared.Cursor.{Cursor}
use Rattle.wkt.specs.declared.Part.{Part}
use Rattle.wkt.specs.InnerParts.{Printed}

pub data Run (levels : List ℕ) (f : Frame) (v : ℕ) (listed counts closed : List ℕ)
    : Cursor → List ℕ → Type 0 where
  ended : {c : Cursor} → length counts < c.line → Run levels f v listed counts closed c []
  printed : {c : Cursor} {room room' text : List ℕ} {part : Part}
      → Printed levels f v listed counts closed c room part room'
      → Run levels f v listed counts closed part.next text
      → Run levels f v listed counts closed c (take part.size room' ++ text)
