-- `grid::size::level_size` meets its contract. Assumes nothing.
use mathlib.Core.Path.{sym}
use native.Mathlib.Omega.{arith}
use Rattle.grid.proofs.WriteSizes.{level_five, level_six, level_seven}
use Rattle.grid.proofs.size.level_size.Goals as goal

pub returns-in-0-to-9999 : goal.returns-in-0-to-9999
returns-in-0-to-9999 c = sym (level_five _ (omega arith))

pub returns-in-10000-to-99999 : goal.returns-in-10000-to-99999
returns-in-10000-to-99999 c = sym (level_six _ (omega arith) (omega arith))

pub returns-in_default : goal.returns-in_default
returns-in_default c = sym (level_seven _ (omega arith) c.requires)
