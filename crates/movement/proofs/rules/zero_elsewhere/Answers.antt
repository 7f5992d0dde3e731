use Rattle.std.proofs.Common.{rules}
use Rattle.std.specs.Prelude.{◌||◌, ◌==◌, nat_lt}
use Rattle.std.proofs.lemmas.Iterator.{YieldsList-from_slice, YieldsList-from_zip}
use Rattle.std.proofs.lemmas.Iterator.Search.{all_from_yields_List}
use Rattle.movement.proofs.Elsewhere.{elsewhere_pairs}
use Rattle.movement.proofs.rules.zero_elsewhere.Goals as goal

pub returns : goal.returns
returns c =
    elsewhere_pairs _ _ _
    (all_from_yields_List (λ p. nat_lt 0 p.0 || p.1 == 0) c.all.new.self _ _ c.all.ensures.ran
    (YieldsList-from_zip (YieldsList-from_slice c.args.counts.now cc) (YieldsList-from_slice c.args.levels.now cc))
    (λ x b q k. search rules))
