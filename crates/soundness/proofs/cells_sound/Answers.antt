-- `soundness::cells_sound` meets its contract. Assumes nothing.
use Rattle.std.proofs.Common.{rules}
use mathlib.Core.Bool.{Bool, ◌&&◌}
use Prim.Native.Nat.{ℕ}
use lib.Dec.{leb}
use Rattle.std.proofs.lemmas.Iterator.{YieldsList-from_slice, YieldsList-from_zip}
use Rattle.std.proofs.lemmas.Iterator.Consumers.{fold_from_yields_List}
use Rattle.movement.specs.Limits.{max_count}
use Rattle.book_rules.specs.Columns.{top_level}
use Rattle.soundness.proofs.Columnwise.{cells_fold}
use Rattle.soundness.proofs.cells_sound.Goals as goal

pub returns : goal.returns
returns c =
    cells_fold _ _ _ c.requires
    (fold_from_yields_List _ (λ (t : Bool) (p : ℕ × ℕ). (t && leb p.0 max_count) && leb p.1 (top_level p.0)) _ _
    c.fold.ensures.ran
    (YieldsList-from_zip (YieldsList-from_slice c.args.counts.now cc) (YieldsList-from_slice c.args.levels.now cc))
    (λ a x b q k. search rules))
