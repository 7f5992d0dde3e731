-- `said::part::first_line` answers a part of the text. Assumes nothing.
use mathlib.Core.{Path.refl, List.[]}
use Rattle.std.specs.Prelude.{length}
use Rattle.std.proofs.Common.{rules}
use Rattle.said.proofs.Stretches.{stretched, front_within, get_of_get}
use Rattle.said.proofs.part.first_line.Goals as goal

pub returns-in_default : goal.returns-in_default
returns-in_default c = stretched c.args.s.now [] [] c.args.s.now refl

pub returns : goal.returns
returns c =
    let text = c.args.s.now in
    let part = c.in-Some.part in
    front_within text part.now c.row_end-end.result
    (
    get_of_get text c.args.at (length text) c.args.left _ c.get.result c.and_then.result part c.get.ensures.lookup
    c.and_then.ensures c.in-Some.is (λ x e. search rules)
    )
