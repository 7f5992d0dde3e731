-- `text::inner::put_text` meets its contract: the text stands in the part that it was copied to. Assumes nothing.
use Rattle.std.proofs.Common.{refl}
use Rattle.std.specs.Prelude.{length}
use Rattle.room.proofs.Laws.{put_part}
use Rattle.text.proofs.inner.put_text.Goals as goal

pub returns : goal.returns
returns c =
    let a = c.args in
    record { place = refl; bytes = put_part a.at (length a.text.now) a.out.now c.copy_from_slice.ensures.after refl }
