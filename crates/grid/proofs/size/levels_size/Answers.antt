use Rattle.std.specs.Prelude.{◌≡◌, ◌+◌, ◌^◌, ◌<◌, ◌≤◌, get_or, drop}
use native.Mathlib.Omega.{arith}
use Rattle.text.proofs.Thousandths.{thousandths_most}
use Rattle.grid.specs.InnerSteps.{sizes_of}
use Rattle.grid.proofs.WriteSizes.{sizes_more, sizes-none}
use Rattle.grid.proofs.size.levels_size.Goals as goal
use Rattle.grid.proofs.size.levels_size.Goals.{After-level_size}

-- what one level adds
added : (c : After-level_size) → let a = c.args in
    let l = c.loop-level in
    (c.level_size.result ≤ 7)
    × (sizes_of (drop l.level-index a.levels.now) ≡ c.level_size.result + 1 + sizes_of
    (drop (l.level-index + 1) a.levels.now))
added c =
    let a = c.args in
    let l = c.loop-level in
    let quiet = c.requires.1 l.level-index in (
      omega (arith, c.level_size.ensures, thousandths_most (get_or a.levels.now l.level-index 0) (omega arith)),
      rw c.level_size.ensures (sizes_more a.levels.now l.level-index c.loop-level-test.true),
    )

-- what is added up stays small
small : (c : After-level_size) → c.loop-level.total + 8 < 2 ^ 64
small c =
    let i = c.loop-level.invariant in
    omega (arith, i.1, i.2, c.requires.0)

pub loop-level-preserved : goal.loop-level-preserved
loop-level-preserved c =
    let l = c.loop-level in
    let n = added c in
    (omega (arith, n.1, l.invariant.0), omega (arith, n.0, l.invariant.1), omega (arith, c.loop-level-test.true))

pub returns : goal.returns
returns c =
    omega (
      arith,
      c.loop-level.invariant.0,
      sizes-none c.args.levels.now
          c.loop-level.level-index c.loop-level-test.false,
    )

pub loop-level-init : goal.loop-level-init
loop-level-init c = (omega arith, omega arith, omega arith)

pub level_size-requires : goal.level_size-requires
level_size-requires c = c.requires.1 c.loop-level.level-index

pub overflow_add-total : goal.overflow_add-total
overflow_add-total c = omega (arith, (added c).0, small c)

pub overflow_add-total-in-loop-level : goal.overflow_add-total-in-loop-level
overflow_add-total-in-loop-level c = omega (arith, (added c).0, small c)
