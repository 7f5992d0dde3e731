-- `text::inner::put_byte` meets its contract: a store is text of one byte. Assumes nothing.
use mathlib.Core.Path.{refl}
use Rattle.room.proofs.Laws.{put_one}
use Rattle.text.proofs.inner.put_byte.Goals as goal

pub returns : goal.returns
returns c = record { place = refl; bytes = put_one _ _ _ c.requires }
