-- `wkt::place::stand` meets its contract. Assumes nothing.
use native.Mathlib.Omega.{arith}
use Rattle.wkt.proofs.Nearest.{metres_small}
use Rattle.wkt.proofs.place.stand.Goals as goal

pub overflow_mul-result : goal.overflow_mul-result
overflow_mul-result c = omega (arith, metres_small c.args.index c.args.spacing c.requires.0 c.requires.1.0)

pub overflow_add-result : goal.overflow_add-result
overflow_add-result c = omega (arith, metres_small c.args.index c.args.spacing c.requires.0 c.requires.1.0)

pub overflow_mul-result-2 : goal.overflow_mul-result-2
overflow_mul-result-2 c = omega (arith, metres_small c.args.index c.args.spacing c.requires.0 c.requires.1.0)
