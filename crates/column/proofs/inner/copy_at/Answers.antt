-- `column::inner::copy_at` meets its contract. Assumes nothing.
use mathlib.Core.Path.{refl}
use Rattle.std.specs.Prelude.{length}
use Rattle.column.proofs.Parts.{put_part}
use Rattle.column.proofs.inner.copy_at.Goals as goal

pub returns : goal.returns
returns c =
    put_part c.args.at (length c.args.from.now) c.args.column.now
    c.copy_over.ensures refl
