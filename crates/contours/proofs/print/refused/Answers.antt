-- `contours::print::refused` meets what its write asks for: the line stands at the front of the buffer. Assumes
-- nothing.
use mathlib.Core.Path.{sym}
use lib.Seq.{length-take-le}
use Rattle.room.proofs.Laws.{wrote_front, wrote_fits}
use Rattle.contours.proofs.print.refused.Goals as goal

pub slice_bounds-write-end : goal.slice_bounds-write-end
slice_bounds-write-end c =
    sym (length-take-le _ _ (wrote_fits c.put_refused-n.ensures))

pub write-requires : goal.write-requires
write-requires c =
    record {
      answered = rw (wrote_front c.put_refused-n.ensures) c.requires.answered;
      sent_value =
          c.requires.sent_value;
    }

pub slice_bounds-room-end : goal.slice_bounds-room-end
slice_bounds-room-end c = wrote_fits c.put_refused-n.ensures
