use Rattle.std.specs.Prelude.{◌≡◌, ◌+◌, ◌*◌, ◌<◌}
use mathlib.Core.Path.{refl, ◌∙◌}
use native.Mathlib.Omega.{arith}
use Rattle.movement.specs.Limits.{group_count}
use Rattle.text.specs.Sheet.{ended}
use Rattle.text.specs.InnerWithin.{WroteWithin}
use Rattle.text.proofs.Within.{within_none, within_more, within_then, within_is}
use Rattle.explain_text.specs.{Text.group_line, InnerRoom.longest_line, InnerNumbers.group_in}
use Rattle.explain_text.proofs.Grouped.{groups_none, groups_more}
use Rattle.explain_text.proofs.lines.put_groups.Goals as goal

pub put_standing-next-requires : goal.put_standing-next-requires
put_standing-next-requires c =
    let few : c.loop-g.g < group_count = omega arith in
    (c.requires.0, few, omega (arith, c.loop-g.invariant.0.within, c.loop-g.invariant.1, c.requires.2))

pub loop-g-preserved : goal.loop-g-preserved
loop-g-preserved c =
    let g = c.loop-g.g in
    let few : g < group_count = omega arith in
    let a = group_in c.args.numbers.now in
    let one : WroteWithin longest_line c.loop-g.out c.loop-g.next (ended (group_line c.args.point g (a g)))
    c.put_standing-next.new.out c.put_standing-next.result =
    rw c.group_amounts.ensures at c.put_standing-next.ensures in (
      within_more {m = longest_line * g + longest_line} (omega arith)
          (within_is (within_then (omega (arith, c.requires.2)) c.loop-g.invariant.0 one)
          (groups_more c.args.point a g)),
      c.put_standing-next.auto.out ∙ c.loop-g.invariant.1,
    )

pub returns : goal.returns
returns c =
    let last : c.loop-g.g ≡ group_count = omega arith in
    rw last at c.loop-g.invariant.0

pub loop-g-init : goal.loop-g-init
loop-g-init c = (within_is within_none (groups_none _ _), refl)
