-- `register::row::eight_from` meets its contract: eight values are copied. Assumes nothing.
use Rattle.std.proofs.Common.{◌∙◌, arith}
use Rattle.register.proofs.Rows.{eight_part}
use Rattle.register.proofs.row.eight_from.Goals as goal

pub returns : goal.returns
returns c = c.copy_from_slice.ensures.after ∙ eight_part c.args.k c.args.values (omega arith)
