-- `wkt::place::offset` meets its contract. Assumes nothing.
use Rattle.std.specs.Prelude.{◌*◌, ◌≤◌}
use native.Mathlib.Omega.{arith}
use Rattle.wkt.specs.Places.{offset_of}
use Rattle.wkt.proofs.Nearest.{offset_small, product_small}
use borrow.Author.Rules.{rules}
use Rattle.wkt.proofs.place.offset.Goals as goal
use Rattle.wkt.proofs.place.offset.Goals.{Start}

product : (c : Start) → 1000 * c.args.spacing * c.args.num ≤ 2147483647500000
product c = let n : c.args.num ≤ 4294967295 = search rules in
    product_small c.args.spacing c.args.num c.requires.0 n

pub overflow_cast-result-2 : goal.overflow_cast-result-2
overflow_cast-result-2 c =
    let small : offset_of c.args.spacing c.args.num c.args.den ≤ 1000 * c.args.spacing =
    offset_small c.args.spacing c.args.num c.args.den c.requires.1.0 c.requires.1.1 in
    omega arith

pub overflow_mul-result : goal.overflow_mul-result
overflow_mul-result c = omega (arith, product c)

pub overflow_mul-result-2 : goal.overflow_mul-result-2
overflow_mul-result-2 c = omega (arith, product c)

pub overflow_add-result : goal.overflow_add-result
overflow_add-result c = omega (arith, product c)
