-- `said::part::line` answers a part of the text. Assumes nothing.
use mathlib.Core.{Path.refl, Path.subst}
use Rattle.std.specs.Option.{IfSome}
use Rattle.said.specs.Stretch.{IsFront, IsStretch}
use Rattle.said.proofs.Stretches.{nth_stretch}
use Rattle.said.proofs.part.line.Goals as goal

pub returns : goal.returns
returns c =
    let part =
    nth_stretch (λ s r t. IfSome r (λ x. IsFront s.rest.now x.now t.rest.now)) (λ s. s.rest.now) (λ s x t step. step)
    c.of.result c.nth.new.self _ _ _ _ refl c.nth.ensures.ran c.unwrap_or.ensures in
    subst (λ t. IsStretch t c.unwrap_or.result.now) c.of.ensures part
