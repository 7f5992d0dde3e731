-- `date::before_year` meets its contract: the formula is the sum of the years' days. Assumes nothing.
use mathlib.Core.Path.{sym}
use Rattle.date.proofs.Years.{before_formula}
use Rattle.date.proofs.before_year.Goals as goal

pub returns : goal.returns
returns c = sym (before_formula _)
