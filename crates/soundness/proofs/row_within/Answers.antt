-- `soundness::row_within` meets its contract. Assumes nothing.
use Rattle.std.proofs.Common.{rules}
use mathlib.Core.Bool.{Bool, ◌&&◌}
use Prim.Native.Nat.{ℕ}
use lib.Dec.{leb}
use Rattle.std.proofs.lemmas.Iterator.{YieldsList-from_slice}
use Rattle.std.proofs.lemmas.Iterator.Consumers.{fold_from_yields_List}
use Rattle.soundness.proofs.Columnwise.{within_fold}
use Rattle.soundness.proofs.row_within.Goals as goal

pub returns : goal.returns
returns c =
    within_fold _ _ _
    (fold_from_yields_List _ (λ (t : Bool) (l : ℕ). t && leb l c.args.top) _ _ c.fold.ensures.ran
    (YieldsList-from_slice c.args.levels.now cc) (λ a x b q k. search rules))
