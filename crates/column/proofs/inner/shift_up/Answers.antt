use mathlib.Core.{Path.◌≡◌, Path.refl, Path.ap, Path.◌∙◌, List.◌++◌}
use Rattle.std.specs.Prelude.{take}
use native.Mathlib.{Nat.zero-add, Omega.arith}
use lib.ListN.{length-set}
use Rattle.column.proofs.Lists.{back, raised, back_more, back_start}
use Rattle.column.proofs.inner.shift_up.Goals as goal

pub loop-left-init : goal.loop-left-init
loop-left-init c = (omega arith, (back_start c.args.tail.now c.args.count c.args.w c.requires, refl))

pub loop-left-preserved : goal.loop-left-preserved
loop-left-preserved c = (
  omega arith,
  (
    back_more c.args.tail.now c.args.count c.args.w c.loop-left.left
        c.loop-left.invariant.1.0 (omega arith) (omega arith) c.requires,
    simp length-set (omega arith),
  ),
)

pub returns : goal.returns
returns c =
    let e : c.loop-left.left ≡ 0 = omega arith in
    let rest = raised c.args.count c.args.w c.args.tail.now in
    c.loop-left.invariant.1.0
    ∙ ap (back rest c.args.tail.now c.args.w) e
    ∙ ap (λ n. take n c.args.tail.now ++ rest) (zero-add c.args.w)
