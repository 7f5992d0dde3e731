-- `grid::size::head_size` meets its contract. Assumes nothing.
use Rattle.std.specs.Prelude.{◌+◌, ◌≤◌}
use native.Mathlib.Omega.{arith}
use Rattle.grid.proofs.WriteSizes.{whole_most, head_length}
use Rattle.grid.proofs.size.head_size.Goals as goal
use Rattle.grid.proofs.size.head_size.Goals.{After-whole_size-2, After-whole_size-4}

-- each number has at most seven digits
two : (c : After-whole_size-2) → c.whole_size.result + c.whole_size-2.result ≤ 14
two c =
    omega (
      arith,
      c.whole_size.ensures,
      c.whole_size-2.ensures,
      whole_most c.args.frame.columns
          c.requires.columns_most,
      whole_most c.args.frame.rows c.requires.rows_most,
    )

four : (c : After-whole_size-4) → c.whole_size-3.result + c.whole_size-4.result ≤ 14
four c =
    omega (
      arith,
      c.whole_size-3.ensures,
      c.whole_size-4.ensures,
      whole_most c.args.frame.west c.requires.west_most,
      whole_most c.args.frame.south c.requires.south_most,
    )

pub overflow_add-result-3 : goal.overflow_add-result-3
overflow_add-result-3 c =
    omega (
      arith,
      two (goal.at.overflow_add-result-3 c).After-whole_size-2,
      four (goal.at.overflow_add-result-3 c).After-whole_size-4,
      c.whole_size-5.ensures,
      whole_most c.args.frame.spacing c.requires.spacing_most,
    )

pub returns : goal.returns
returns c =
    omega (
      arith,
      head_length c.args.frame,
      c.whole_size.ensures,
      c.whole_size-2.ensures,
      c.whole_size-3.ensures,
      c.whole_size-4.ensures,
      c.whole_size-5.ensures,
    )

pub overflow_add-sides : goal.overflow_add-sides
overflow_add-sides c = omega (arith, two c)

pub overflow_add-place : goal.overflow_add-place
overflow_add-place c = omega (arith, four c)

pub overflow_add-result : goal.overflow_add-result
overflow_add-result c = omega (arith, two (goal.at.overflow_add-result c).After-whole_size-2)

pub overflow_add-result-2 : goal.overflow_add-result-2
overflow_add-result-2 c = omega (arith, two (goal.at.overflow_add-result-2 c).After-whole_size-2, four c)
