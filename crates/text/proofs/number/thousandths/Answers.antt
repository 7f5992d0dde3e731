-- `text::number::thousandths` meets its contract: three decimals, or two. Assumes nothing.
use Rattle.std.proofs.Common.{arith, sym, ◌∙◌}
use Rattle.text.specs.Number.{thousandths_of}
use Rattle.text.proofs.Exact.{decimal_small}
use Rattle.text.proofs.number.thousandths.Goals as goal

pub returns-in-Some : goal.returns-in-Some
unfolding thousandths_of
returns-in-Some c =
    let got = sym c.decimal.ensures ∙ c.in-Some.is in rw got

pub returns-in_ok-decimal-in-None : goal.returns-in_ok-decimal-in-None
unfolding thousandths_of
returns-in_ok-decimal-in-None c =
    let off = sym c.decimal.ensures ∙ c.in-None.is in
    let got = sym c.decimal-in-None.ensures ∙ c.in_ok-decimal-in-None.was in
    rw (off, got)

pub returns-in_err-decimal-in-None : goal.returns-in_err-decimal-in-None
unfolding thousandths_of
returns-in_err-decimal-in-None c =
    let off = sym c.decimal.ensures ∙ c.in-None.is in
    let too = sym c.decimal-in-None.ensures ∙ c.in_err-decimal-in-None.was in
    rw (off, too) c.from_residual.ensures

pub overflow_mul-result : goal.overflow_mul-result
overflow_mul-result c =
    let got = sym c.decimal-in-None.ensures ∙ c.in_ok-decimal-in-None.was in
    omega (arith, decimal_small 2 _ _ got)
