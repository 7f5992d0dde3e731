-- `column::inner::fill_at` meets its contract. Assumes nothing.
use Rattle.std.specs.Prelude.{◌≡◌, ◌+◌, ◌-◌, length, replicate}
use Rattle.std.proofs.Common.{rules}
use mathlib.Core.Path.{ap, ◌∙◌}
use native.Mathlib.Omega.{arith}
use lib.ListN.{length-replicate}
use borrow.Rule.Slice.PartMut.{mid_of, mid_len}
use Rattle.column.proofs.Parts.{put_part}
use Rattle.column.proofs.inner.fill_at.Goals as goal

pub returns : goal.returns
returns c =
    let m : length (mid_of c.args.at (c.args.at + c.args.w - c.args.at) c.args.column.now)
    ≡ c.args.w = omega (arith, mid_len c.args.at (c.args.at + c.args.w) c.args.column.now c.requires) in
    put_part c.args.at c.args.w c.args.column.now (c.fill.ensures.after (λ y e. search rules)
    ∙ ap (λ n. replicate n c.args.v) m) (length-replicate c.args.w c.args.v)
