-- `said::part::column` answers a part of the text. Assumes nothing.
use mathlib.Core.{Path.◌≡◌, Path.refl, Path.subst}
use Rattle.std.specs.Slice.Iter.{split_steps}
use Rattle.said.specs.Stretch.{IsStretch}
use Rattle.said.proofs.Stretches.{nth_stretch, split_goes, split_left}
use Rattle.said.proofs.part.column.Goals as goal

pub returns : goal.returns
returns c =
    let whole : split_left c.split.result ≡ c.args.s.now = rw c.split.ensures.done c.split.ensures.rest in
    let steps = nth_stretch (split_steps _) split_left (split_goes _) in
    let part = steps _ _ _ _ _ _ refl c.nth.ensures.ran c.unwrap_or.ensures in
    subst (λ t. IsStretch t c.unwrap_or.result.now) whole part
