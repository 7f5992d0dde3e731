-- What `put_step` leaves, wherever printing calls it: the cursor went on, and its buffer is as long as before. Assumes
-- nothing.
use mathlib.Core.{Path.◌≡◌, Path.◌∙◌, List.List}
use Rattle.std.specs.Prelude.{ℕ, ◌≤◌, length}
use native.Mathlib.Omega.{arith}
use Rattle.room.specs.Room.{Wrote}
use Rattle.room.proofs.Laws.{length_wrote}
use Rattle.network.specs.declared.Frame.{Frame}
use Rattle.wkt.specs.declared.Cursor.{Cursor}
use Rattle.wkt.specs.InnerParts.{Printable, Reached, piece_of, next_of}
use Rattle.wkt.proofs.{Lengths.piece_short, Steps.Goes, Steps.goes}

pub record Stepped (levels : List ℕ) (f : Frame) (v : ℕ) (listed counts closed : List ℕ) (at next : Cursor)
    (size : ℕ) (piece : List ℕ) : Type 0 where
  pub went : Goes levels f v listed counts closed at next (piece_of levels f v listed counts closed at)
  pub short : size ≤ 64
  pub whole : length piece ≡ 64

pub stepped : {levels : List ℕ} {f : Frame} {v : ℕ} {listed counts closed : List ℕ} {at next : Cursor}
    {size : ℕ} {before piece : List ℕ} → Printable levels f v listed counts closed
    → Reached listed counts closed at → at.line ≤ length counts → length before ≡ 64
    → (next ≡ next_of counts closed at) × Wrote before 0 (piece_of levels f v listed counts closed at) piece size
    → Stepped levels f v listed counts closed at next size piece
stepped {levels} {f} {v} {listed} {counts} {closed} {at} k r l e w =
    let short = piece_short levels f v listed counts closed at in
    record {
      went = rw w.0 (goes levels f v listed counts closed k at r l);
      short = omega (arith, w.1.place);
      whole = length_wrote (omega arith) w.1 ∙ e;
    }
