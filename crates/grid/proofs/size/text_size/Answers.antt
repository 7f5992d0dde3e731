-- `grid::size::text_size` meets its contract. Assumes nothing.
use Rattle.std.specs.Prelude.{◌≤◌}
use Rattle.grid.proofs.WriteSizes.{near, network_size}
use Rattle.grid.proofs.WriteLaws.{head_most, levels_most, points_most}
use native.Mathlib.Omega.{arith}
use Rattle.grid.proofs.size.text_size.Goals as goal
use Rattle.grid.proofs.size.text_size.Goals.{After-levels_size}

-- the sizes are small
most : (c : After-levels_size) → (c.head_size.result ≤ 86) × (c.levels_size.result ≤ 524288)
most c = (
  omega (arith, c.head_size.ensures, head_most c.args.frame (near _ _ c.requires)),
  omega (arith, c.levels_size.ensures, levels_most _ _ c.requires),
)

pub returns : goal.returns
returns c =
    omega (
      arith,
      network_size c.args.levels.now c.args.frame c.requires,
      c.head_size.ensures,
      c.levels_size.ensures,
    )

pub head_size-requires : goal.head_size-requires
head_size-requires c = near _ _ c.requires

pub levels_size-requires : goal.levels_size-requires
levels_size-requires c = let p = c.requires in (points_most _ _ _ p.sized, p.quiet)

pub overflow_add-result : goal.overflow_add-result
overflow_add-result c = omega (arith, most c)

pub overflow_add-result-2 : goal.overflow_add-result-2
overflow_add-result-2 c = omega (
  arith,
  most (goal.at.overflow_add-result-2 c).After-levels_size,
  c.requires.sized.sides.low,
)
