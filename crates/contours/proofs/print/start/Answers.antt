-- `contours::print::start` meets its contract: what is written is what is due. Assumes nothing.
use mathlib.Core.Path.{sym}
use native.Mathlib.Omega.{arith}
use lib.Seq.{length-take-le}
use Rattle.room.proofs.Laws.{wrote_front, wrote_fits}
use Rattle.contours.proofs.print.start.Goals as goal

pub put_start-n-requires : goal.put_start-n-requires
put_start-n-requires c =
    (omega (arith, c.requires.drawable.most c.args.i c.requires.i_in_bounds), omega arith)

pub written-requires : goal.written-requires
written-requires c =
    record { drawable = c.requires.drawable; due = rw (wrote_front c.put_start-n.ensures) c.requires.due }

pub returns : goal.returns
returns c =
    rw (wrote_front c.put_start-n.ensures) at c.written.ensures

pub slice_bounds-room-end : goal.slice_bounds-room-end
slice_bounds-room-end c = wrote_fits c.put_start-n.ensures

pub slice_bounds-written-end : goal.slice_bounds-written-end
slice_bounds-written-end c = sym (length-take-le _ _ (wrote_fits c.put_start-n.ensures))
